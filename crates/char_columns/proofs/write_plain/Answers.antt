use mathlib.Core.Path.{refl}
use native.Mathlib.Omega.{arith}
use Rattle.char_columns.proofs.Pairs.{none-ended, end-room, one_ended, all-ended}
use Rattle.char_columns.proofs.write_plain.Goals as goal

pub loop-k-init : goal.loop-k-init
loop-k-init c = none-ended c.requires.pairs_ready

pub bounds-out_starts-k : goal.bounds-out_starts-k
bounds-out_starts-k c = omega (arith, c.requires.pairs_ready.starts_room)

pub bounds-out_ends-k : goal.bounds-out_ends-k
bounds-out_ends-k c = end-room c.requires.pairs_ready c.loop-k.invariant (omega arith)

pub overflow_cast-text : goal.overflow_cast-text
overflow_cast-text c = omega (arith, c.requires.pairs_ready.short)

pub plain_end-requires : goal.plain_end-requires
plain_end-requires c = omega (arith, c.requires.pairs_ready.short)

pub offset_bounds-out_ends-k-in-loop-k : goal.offset_bounds-out_ends-k-in-loop-k
offset_bounds-out_ends-k-in-loop-k c =
    omega (arith, c.well_formed.1.1.1.1.0, c.loop-k.invariant.ends_on.same, end-room c.requires.pairs_ready c.loop-k.invariant (omega arith))

pub bounds-out_ends-k-in-loop-k : goal.bounds-out_ends-k-in-loop-k
bounds-out_ends-k-in-loop-k c = end-room c.requires.pairs_ready c.loop-k.invariant (omega arith)

pub loop-k-preserved : goal.loop-k-preserved
loop-k-preserved c =
    one_ended c.requires.pairs_ready c.loop-k.invariant (omega arith) c.requires.text_value refl
    c.looked_up-start.ensures c.looked_up-end.ensures c.plain_end.ensures

pub shape_of-out_ends : goal.shape_of-out_ends
shape_of-out_ends c = c.loop-k.invariant.ends_on.same

pub returns : goal.returns
returns c = all-ended c.requires.pairs_ready c.loop-k.invariant (omega arith)
