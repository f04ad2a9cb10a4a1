use native.Mathlib.Omega.{arith}
use Rattle.char_columns.proofs.FirstBytes.{flags-made}
use Rattle.char_columns.proofs.Pairs.{none-counted, in_both, one-counted, all-counted}
use Rattle.char_columns.proofs.count_chars.Goals as goal

pub loop-k-init : goal.loop-k-init
loop-k-init c = none-counted c.requires

pub bounds-out_starts-k : goal.bounds-out_starts-k
bounds-out_starts-k c = (in_both c.requires c.loop-k.invariant (omega arith)).0

pub bounds-out_ends-k : goal.bounds-out_ends-k
bounds-out_ends-k c = (in_both c.requires c.loop-k.invariant (omega arith)).1

pub in_chars-offsets-requires : goal.in_chars-offsets-requires
in_chars-offsets-requires c = (c.loop-k.invariant.known, flags-made c.fill.ensures)

pub offset_bounds-out_starts-k-in-loop-k : goal.offset_bounds-out_starts-k-in-loop-k
offset_bounds-out_starts-k-in-loop-k c =
    omega (arith, c.well_formed.1.1.1.0, c.loop-k.invariant.starts_on.same, (in_both c.requires c.loop-k.invariant (omega arith)).0)

pub bounds-out_starts-k-in-loop-k : goal.bounds-out_starts-k-in-loop-k
bounds-out_starts-k-in-loop-k c = (in_both c.requires c.loop-k.invariant (omega arith)).0

pub offset_bounds-out_ends-k-in-loop-k : goal.offset_bounds-out_ends-k-in-loop-k
offset_bounds-out_ends-k-in-loop-k c =
    omega (arith, c.well_formed.1.1.1.1.0, c.loop-k.invariant.ends_on.same, (in_both c.requires c.loop-k.invariant (omega arith)).1)

pub bounds-out_ends-k-in-loop-k : goal.bounds-out_ends-k-in-loop-k
bounds-out_ends-k-in-loop-k c = (in_both c.requires c.loop-k.invariant (omega arith)).1

pub loop-k-preserved : goal.loop-k-preserved
loop-k-preserved c =
    one-counted c.requires c.loop-k.invariant (omega arith)
    c.looked_up-start.ensures c.looked_up-end.ensures
    c.in_chars-offsets.ensures

pub shape_of-out_starts : goal.shape_of-out_starts
shape_of-out_starts c = c.loop-k.invariant.starts_on.same

pub shape_of-out_ends : goal.shape_of-out_ends
shape_of-out_ends c = c.loop-k.invariant.ends_on.same

pub returns : goal.returns
returns c = all-counted c.requires c.loop-k.invariant (omega arith)
