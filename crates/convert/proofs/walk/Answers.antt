use Rattle.convert.proofs.Walked.{none-walked, block_walked, walk-left, walk-done}
use native.Mathlib.Omega.{arith}
use Rattle.convert.proofs.walk.Goals as goal

pub loop-i-init : goal.loop-i-init
loop-i-init c = none-walked

pub overflow_cast-ends : goal.overflow_cast-ends
overflow_cast-ends c = omega (arith, c.type_inv.ends c.loop-i.i)

pub block_last-last-requires : goal.block_last-last-requires
block_last-last-requires c = (c.requires, omega arith, omega arith)

pub loop-i-preserved : goal.loop-i-preserved
loop-i-preserved c = block_walked c.requires c.loop-i.invariant c.block_last-last.ensures c.step-found.ensures

pub returns-after-loop-i : goal.returns-after-loop-i
returns-after-loop-i c = walk-done c.requires c.loop-i.invariant c.loop-i-test.false

pub returns-then-to-ends : goal.returns-then-to-ends
returns-then-to-ends c = walk-left c.requires c.loop-i.invariant c.loop-i-test.true (omega arith)
