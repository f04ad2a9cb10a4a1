use mathlib.Core.Path.{refl}
use native.Mathlib.Omega.{arith}
use Rattle.buffers.proofs.Columns.{none_filled, filled-up, filled_at}
use Rattle.column_blocks.proofs.TwoBeside.{step-at}
use Rattle.column_blocks.proofs.pairs.add_base.Goals as goal

pub loop-k-init : goal.loop-k-init
loop-k-init c = filled_at _ _ _ _ _ _ _ (none_filled _ _ _) refl (omega arith)

pub overflow_cast-out : goal.overflow_cast-out
overflow_cast-out c = omega (arith, c.requires.by_index c.loop-k.k)

pub overflow_add-out : goal.overflow_add-out
overflow_add-out c = omega (arith, c.requires.by_index c.loop-k.k)

pub bounds-out-at : goal.bounds-out-at
bounds-out-at c = omega (arith, c.loop-k.invariant.same)

pub loop-k-preserved : goal.loop-k-preserved
loop-k-preserved c =
    filled_at _ _ _ _ _ _ _ (filled-up _ _ _ _ _ _ c.loop-k.invariant (omega arith) (step-at c.args.base c.args.steps.now c.args.at c.loop-k.k)) refl (omega arith)

pub shape_of-out : goal.shape_of-out
shape_of-out c = c.loop-k.invariant.same

pub returns : goal.returns
returns c = filled_at _ _ _ _ _ _ _ c.loop-k.invariant refl (omega arith)
