use native.Mathlib.Omega.{arith}
use Rattle.stored_answers.proofs.Framing.{none-reached, next-reached, field-reached}
use Rattle.stored_answers.proofs.fields.field.Goals as goal

pub loop-init : goal.loop-init
loop-init c = none-reached _ _

pub loop-preserved : goal.loop-preserved
loop-preserved c =
    next-reached c.loop.invariant c.loop-test.true c.after.ensures c.number.ensures c.after-at.ensures

pub returns : goal.returns
returns c =
    field-reached c.loop.invariant (omega arith) c.after-from.ensures c.number-2.ensures c.after-to.ensures
