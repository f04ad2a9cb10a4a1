use native.Mathlib.Omega.{arith}
use mathlib.Core.Path.{refl}
use Rattle.stored_answers.proofs.Splice.{counted}
use Rattle.stored_answers.proofs.Packing.{none-unpacked, one-unpacked, all-unpacked}
use Rattle.stored_answers.proofs.unpack.unpack.Goals as goal

pub loop-k-init : goal.loop-k-init
loop-k-init c = none-unpacked _ _ _

pub loop-k-preserved : goal.loop-k-preserved
loop-k-preserved c = one-unpacked c.loop-k.invariant c.loop-k-test.true c.field.ensures c.lay-end.ensures

pub shape_of-dst : goal.shape_of-dst
shape_of-dst c = c.loop-k.invariant.laying.same

pub returns : goal.returns
returns c =
    record { prefix_len = counted _ _ c.loop-k.invariant.within; laid = all-unpacked c.loop-k.invariant (omega arith) refl }
