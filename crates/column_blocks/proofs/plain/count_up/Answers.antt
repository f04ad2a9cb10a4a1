use mathlib.Core.Path.{refl}
use native.Mathlib.Omega.{arith}
use Rattle.buffers.proofs.Columns.{none_filled, filled-up, filled_at}
use Rattle.column_blocks.proofs.plain.count_up.Goals as goal

pub loop-k-init : goal.loop-k-init
loop-k-init c = filled_at _ _ _ _ _ _ _ (none_filled _ _ _) refl (omega arith)

pub bounds-out-at : goal.bounds-out-at
bounds-out-at c = omega (arith, c.loop-k.invariant.same)

pub loop-k-preserved : goal.loop-k-preserved
loop-k-preserved c =
    filled_at _ _ _ _ _ _ _ (filled-up _ _ _ _ _ _ c.loop-k.invariant (omega arith) (omega arith)) refl (omega arith)

pub shape_of-out : goal.shape_of-out
shape_of-out c = c.loop-k.invariant.same

pub returns : goal.returns
returns c = filled_at _ _ _ _ _ _ _ c.loop-k.invariant refl (omega arith)
