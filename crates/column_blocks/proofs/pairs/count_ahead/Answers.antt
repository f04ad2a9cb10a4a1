use native.Mathlib.Omega.{arith}
use Rattle.buffers.proofs.Columns.{none_filled, filled-up, filled_at}
use Rattle.column_blocks.proofs.pairs.count_ahead.Goals as goal

pub loop-k-init : goal.loop-k-init
loop-k-init c = none_filled _ _ _

pub overflow_sub-steps : goal.overflow_sub-steps
overflow_sub-steps c = omega (arith, c.begun.ensures)

pub bounds-steps-k : goal.bounds-steps-k
bounds-steps-k c = omega (arith, c.loop-k.invariant.same)

pub loop-k-preserved : goal.loop-k-preserved
loop-k-preserved c =
    filled-up _ _ _ _ _ _ c.loop-k.invariant (omega arith) (omega (arith, c.begun.ensures))

pub shape_of-steps : goal.shape_of-steps
shape_of-steps c = c.loop-k.invariant.same

pub returns : goal.returns
returns c = filled_at _ _ _ _ _ _ _ c.loop-k.invariant (omega arith) (omega arith)
