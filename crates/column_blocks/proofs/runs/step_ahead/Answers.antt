use native.Mathlib.Omega.{arith}
use Rattle.buffers.proofs.Columns.{none_filled, filled-up, filled_at}
use Rattle.column_blocks.proofs.ContinuationRun.{ahead-at}
use Rattle.column_blocks.proofs.runs.step_ahead.Goals as goal

pub loop-k-init : goal.loop-k-init
loop-k-init c = filled_at _ _ _ _ _ _ _ (none_filled _ _ c.args.at) (omega arith) (omega arith)

pub overflow_cast-ends-in-loop-k : goal.overflow_cast-ends-in-loop-k
overflow_cast-ends-in-loop-k c = omega (arith, c.requires.by_index c.loop-k.k)

pub overflow_add-ends-in-loop-k-2 : goal.overflow_add-ends-in-loop-k-2
overflow_add-ends-in-loop-k-2 c = omega (arith, c.requires.by_index c.loop-k.k)

pub loop-k-preserved : goal.loop-k-preserved
loop-k-preserved c =
    let one = ahead-at c.args.counts.now c.args.i c.args.at c.loop-k.k in
    filled_at _ _ _ _ _ _ _ (filled-up _ _ _ _ _ _ c.loop-k.invariant (omega arith) one) (omega arith) (omega arith)

pub shape_of-ends : goal.shape_of-ends
shape_of-ends c = c.loop-k.invariant.same

pub returns : goal.returns
returns c = filled_at _ _ _ _ _ _ _ c.loop-k.invariant (omega arith) (omega arith)
