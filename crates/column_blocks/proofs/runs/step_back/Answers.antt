use native.Mathlib.Omega.{arith}
use Rattle.buffers.proofs.Columns.{none_filled, filled-up, filled_at}
use Rattle.column_blocks.proofs.ContinuationRun.{back_at}
use Rattle.column_blocks.proofs.runs.step_back.Goals as goal

pub loop-k-init : goal.loop-k-init
loop-k-init c = filled_at _ _ _ _ _ _ _ (none_filled _ _ c.args.at) (omega arith) (omega arith)

pub overflow_cast-starts-in-loop-k : goal.overflow_cast-starts-in-loop-k
overflow_cast-starts-in-loop-k c = omega (arith, c.requires.by_index c.loop-k.k)

pub overflow_sub-starts : goal.overflow_sub-starts
overflow_sub-starts c = omega (arith, c.requires.by_index c.loop-k.k)

pub loop-k-preserved : goal.loop-k-preserved
loop-k-preserved c =
    let one = back_at c.args.counts.now c.args.i c.args.at c.loop-k.k in
    filled_at _ _ _ _ _ _ _ (filled-up _ _ _ _ _ _ c.loop-k.invariant (omega arith) one) (omega arith) (omega arith)

pub shape_of-starts : goal.shape_of-starts
shape_of-starts c = c.loop-k.invariant.same

pub returns : goal.returns
returns c = filled_at _ _ _ _ _ _ _ c.loop-k.invariant (omega arith) (omega arith)
