use Prim.Native.Nat.{◌+◌, ◌*◌}
use mathlib.Core.Path.{◌∙◌, sym}
use native.Mathlib.Omega.{arith}
use Rattle.word_pairs.proofs.Words.{both_read, next-cut}
use Rattle.redact_all.proofs.Stepping.{none-stepped, counts_room, count_small, one-stepped, short-stepped, all-stepped}
use Rattle.redact_all.proofs.blank_pairs.Goals as goal

pub loop-k-init : goal.loop-k-init
loop-k-init c = none-stepped c.requires

pub bounds-sizes-k : goal.bounds-sizes-k
bounds-sizes-k c = (both_read c.loop-k.invariant.read (omega arith)).0

pub overflow_cast-middle : goal.overflow_cast-middle
overflow_cast-middle c = omega (arith, c.type_inv.sizes (2 * c.loop-k.k))

pub overflow_add-middle : goal.overflow_add-middle
overflow_add-middle c =
    let cut = next-cut c.loop-k.invariant.read (omega arith) in omega (arith, cut.second, cut.inside)

pub bounds-sizes-k-in-loop-k : goal.bounds-sizes-k-in-loop-k
bounds-sizes-k-in-loop-k c = (both_read c.loop-k.invariant.read (omega arith)).1

pub overflow_cast-end : goal.overflow_cast-end
overflow_cast-end c = omega (arith, c.type_inv.sizes (2 * c.loop-k.k + 1))

pub overflow_add-end-in-loop-k : goal.overflow_add-end-in-loop-k
overflow_add-end-in-loop-k c = omega (arith, (next-cut c.loop-k.invariant.read (omega arith)).inside)

pub slice_bounds-redact_in_place-end : goal.slice_bounds-redact_in_place-end
slice_bounds-redact_in_place-end c =
    let cut = next-cut c.loop-k.invariant.read (omega arith) in omega (arith, cut.second, cut.inside)

pub slice_bounds-redact_in_place-end-in-loop-k : goal.slice_bounds-redact_in_place-end-in-loop-k
slice_bounds-redact_in_place-end-in-loop-k c = omega (arith, (next-cut c.loop-k.invariant.read (omega arith)).inside)

pub redact_in_place-requires : goal.redact_in_place-requires
redact_in_place-requires c = c.loop-k.invariant.is_held

pub overflow_cast-counts : goal.overflow_cast-counts
overflow_cast-counts c =
    omega (arith, count_small c.loop-k.invariant (omega arith) c.redact_in_place.ensures c.in-Ok.is)

pub bounds-counts-k : goal.bounds-counts-k
bounds-counts-k c = counts_room c.loop-k.invariant (omega arith)

pub returns-in_default : goal.returns-in_default
returns-in_default c =
    short-stepped c.loop-k.invariant (omega arith) c.redact_in_place.ensures _ _ _ _ c.in_default.is

pub loop-k-preserved : goal.loop-k-preserved
loop-k-preserved c =
    one-stepped c.loop-k.invariant (omega arith) c.redact_in_place.ensures c.in-Ok.is (omega arith) (omega arith) (omega arith)

pub shape_of-text : goal.shape_of-text
shape_of-text c = c.loop-k.invariant.is_held.text_long ∙ sym c.requires.is_held.text_long

pub shape_of-starts : goal.shape_of-starts
shape_of-starts c = c.loop-k.invariant.is_held.starts_long ∙ sym c.requires.is_held.starts_long

pub shape_of-ends : goal.shape_of-ends
shape_of-ends c = c.loop-k.invariant.is_held.ends_long ∙ sym c.requires.is_held.ends_long

pub shape_of-counts : goal.shape_of-counts
shape_of-counts c = c.loop-k.invariant.laid.same

pub returns : goal.returns
returns c = all-stepped c.loop-k.invariant (omega arith)
