use mathlib.Core.Path.{refl}
use native.Mathlib.Omega.{arith}
use Rattle.buffers.proofs.Splice.{none_yet}
use Rattle.slice.proofs.Lowered.{one-lowered, all-lowered}
use Rattle.slice.proofs.write_lowered.Goals as goal

pub loop-j-init : goal.loop-j-init
loop-j-init c = none_yet

pub overflow_sub-out : goal.overflow_sub-out
overflow_sub-out c = c.requires.above _ (omega arith)

pub loop-j-preserved : goal.loop-j-preserved
loop-j-preserved c = one-lowered _ _ c.loop-j.invariant c.requires (omega arith) refl

pub shape_of-out : goal.shape_of-out
shape_of-out c = c.loop-j.invariant.same

pub returns : goal.returns
returns c = all-lowered _ _ c.loop-j.invariant (omega arith)
