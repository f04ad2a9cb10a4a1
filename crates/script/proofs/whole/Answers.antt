use native.Mathlib.Omega.{arith}
use Rattle.script.proofs.Scripts.{entry-step, none-judged, next-judged, broken-judged, all-judged}
use Rattle.script.proofs.whole.Goals as goal

pub loop-i-init : goal.loop-i-init
loop-i-init c = none-judged

pub loop-i-smaller : goal.loop-i-smaller
loop-i-smaller c =
    let step = entry-step _ c.entry_at.ensures c.in-Some.is in
    omega (arith, step.onward, step.most)

pub loop-i-preserved : goal.loop-i-preserved
loop-i-preserved c = next-judged c.loop-i.invariant c.entry_at.ensures c.in-Some.is

pub returns-in_default : goal.returns-in_default
returns-in_default c = broken-judged c.loop-i.invariant c.loop-i-test.true c.entry_at.ensures c.in_default.is

pub returns : goal.returns
returns c = all-judged c.loop-i.invariant c.loop-i-test.false
