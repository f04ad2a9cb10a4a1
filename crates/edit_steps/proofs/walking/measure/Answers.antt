use native.Mathlib.Omega.{arith}
use Rattle.script.proofs.Scripts.{entry-step}
use Rattle.edit_steps.proofs.Measured.{none-measured, starves-there, counting, one-measured, broken-measured, all-measured}
use Rattle.edit_steps.proofs.walking.measure.Goals as goal

pub loop-i-init : goal.loop-i-init
loop-i-init c = none-measured c.requires

pub advanced-progress-requires : goal.advanced-progress-requires
advanced-progress-requires c =
    counting c.loop-i.invariant c.entry_at.ensures c.in-Some.is (omega arith)

pub returns-then-progress : goal.returns-then-progress
returns-then-progress c =
    starves-there c.loop-i.invariant c.entry_at.ensures c.in-Some.is c.advanced-progress.ensures c.if-progress.true

pub loop-i-smaller : goal.loop-i-smaller
loop-i-smaller c =
    let step = entry-step _ c.entry_at.ensures c.in-Some.is in
    omega (arith, step.onward, step.most)

pub loop-i-preserved : goal.loop-i-preserved
loop-i-preserved c =
    one-measured c.loop-i.invariant c.entry_at.ensures c.in-Some.is c.advanced-progress.ensures c.if-progress.false

pub returns-in_default : goal.returns-in_default
returns-in_default c = broken-measured c.loop-i.invariant c.loop-i-test.true c.entry_at.ensures c.in_default.is

pub returns : goal.returns
returns c = all-measured c.loop-i.invariant c.loop-i-test.false
