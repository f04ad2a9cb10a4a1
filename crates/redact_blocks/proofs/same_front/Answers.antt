use native.Mathlib.Omega.{arith}
use Rattle.redact_blocks.proofs.Front.{none-fronted, one-fronted, all-fronted}
use Rattle.redact_blocks.proofs.same_front.Goals as goal

pub loop-j-init : goal.loop-j-init
loop-j-init c = none-fronted (omega arith) (omega arith)

pub loop-j-preserved : goal.loop-j-preserved
loop-j-preserved c = one-fronted c.loop-j.invariant

pub returns : goal.returns
returns c = all-fronted c.loop-j.invariant (omega arith)
