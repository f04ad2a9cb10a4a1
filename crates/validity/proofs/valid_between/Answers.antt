use mathlib.Core.Path.{sym}
use native.Mathlib.Omega.{arith}
use Rattle.validity.proofs.ValidAt.{valid-none, valid-more, valid-not, valid-done, at_one}
use Rattle.validity.proofs.valid_between.Goals as goal

pub loop-i-init : goal.loop-i-init
loop-i-init c = valid-none c.requires.0

pub returns-then-not-valid_at : goal.returns-then-not-valid_at
returns-then-not-valid_at c =
    let head = c.loop-i in
    sym (valid-not head.invariant _ (omega arith) _ (at_one _ head.i c.valid_at.ensures) c.if-not-valid_at.true)

pub loop-i-preserved : goal.loop-i-preserved
loop-i-preserved c =
    let head = c.loop-i in
    valid-more head.invariant _ (omega arith) _ (at_one _ head.i c.valid_at.ensures) c.if-not-valid_at.false

pub returns : goal.returns
returns c = sym (valid-done c.loop-i.invariant c.loop-i-test.false)
