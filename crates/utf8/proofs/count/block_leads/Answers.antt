use native.Mathlib.Omega.{arith}
use Rattle.utf8.proofs.Chars.{none-counted, flag-counted, counted-le}
use Rattle.utf8.proofs.count.block_leads.Goals as goal

pub loop-b-init : goal.loop-b-init
loop-b-init c = none-counted

pub loop-b-preserved : goal.loop-b-preserved
loop-b-preserved c = flag-counted c.loop-b.invariant c.loop-b-test.true c.continues.ensures

pub overflow_add-n : goal.overflow_add-n
overflow_add-n c = omega (arith, counted-le (loop-b-preserved c))
