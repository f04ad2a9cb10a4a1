use mathlib.Core.Path.{refl}
use Prim.Native.Nat.{◌+◌}
use native.Mathlib.Omega.{arith}
use Rattle.note.specs.Notes.{limit}
use Rattle.stored_answers.proofs.Differences.{none-summed, one-summed, all-summed}
use Rattle.stored_answers.proofs.columns.offsets.Goals as goal

pub loop-i-init : goal.loop-i-init
loop-i-init c = none-summed (limit + 1) _ _ _ (omega arith) c.min-n.ensures

pub loop-i-preserved : goal.loop-i-preserved
loop-i-preserved c = one-summed c.loop-i.invariant c.loop-i-test.true c.number.ensures refl (omega arith)

pub shape_of-dst : goal.shape_of-dst
shape_of-dst c = c.loop-i.invariant.laying.same

pub returns : goal.returns
returns c =
    record { prefix_len = (all-summed c.loop-i.invariant (omega arith) c.min-n.ensures c.field-field.ensures).0; laid = (all-summed c.loop-i.invariant (omega arith) c.min-n.ensures c.field-field.ensures).1 }
