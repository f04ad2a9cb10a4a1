use native.Mathlib.Omega.{arith}
use Rattle.edits.proofs.Head.{one-passed, stop-passed, all-passed}
use Rattle.edits.proofs.front.widthless.Goals as goal

pub loop-i-preserved : goal.loop-i-preserved
loop-i-preserved c = one-passed c.loop-i.invariant c.requires c.loop-i-test.true c.if-starts-i.false

pub returns : goal.returns
returns c = omega (arith, all-passed c.loop-i.invariant c.requires c.loop-i-test.false, c.loop-i.invariant.most, c.loop-i-test.false)

pub returns-then-starts-i : goal.returns-then-starts-i
returns-then-starts-i c = stop-passed c.loop-i.invariant c.requires c.loop-i-test.true c.if-starts-i.true
