use Rattle.filter_blocks.proofs.Chars.{none-back, one-back, four-back}
use native.Mathlib.Omega.{arith}
use Rattle.filter_blocks.proofs.before_four.Goals as goal

pub loop-i-init : goal.loop-i-init
loop-i-init c = none-back _

pub overflow_add-n : goal.overflow_add-n
overflow_add-n c = omega (arith, (one-back c.loop-i.invariant c.loop-i-test.true).small)

pub returns-then-n-eq4 : goal.returns-then-n-eq4
returns-then-n-eq4 c = four-back (one-back c.loop-i.invariant c.loop-i-test.true) c.if-n-eq4.true

pub loop-i-preserved : goal.loop-i-preserved
loop-i-preserved c = one-back c.loop-i.invariant c.loop-i-test.true
