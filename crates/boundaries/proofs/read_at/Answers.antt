use mathlib.Core.Path.{refl}
use native.Mathlib.Omega.{arith}
use Rattle.buffers.proofs.Columns.{none_filled, filled-up, filled_at}
use Rattle.boundaries.proofs.read_at.Goals as goal

pub loop-j-init : goal.loop-j-init
loop-j-init c = none_filled _ _ _

pub overflow_cast-bytes : goal.overflow_cast-bytes
overflow_cast-bytes c = omega (arith, c.type_inv.starts c.loop-j.j)

pub bounds-original-starts : goal.bounds-original-starts
bounds-original-starts c = c.requires.starts_inside.below _ (omega arith)

pub loop-j-preserved : goal.loop-j-preserved
loop-j-preserved c = filled-up _ _ _ _ _ _ c.loop-j.invariant (omega arith) refl

pub shape_of-bytes : goal.shape_of-bytes
shape_of-bytes c = c.loop-j.invariant.same

pub returns : goal.returns
returns c = filled_at _ _ _ _ _ _ _ c.loop-j.invariant (omega arith) (omega arith)
