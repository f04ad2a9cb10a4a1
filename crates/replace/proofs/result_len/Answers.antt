use native.Mathlib.Omega.{arith}
use Rattle.pattern.proofs.Entries.{entry-step}
use Rattle.replace.proofs.Sizes.{none-measured, more-measured, too_much, broken-measured, all-measured}
use Rattle.replace.proofs.result_len.Goals as goal

pub loop-i-init : goal.loop-i-init
loop-i-init c = none-measured _ _

pub returns-then-total-size : goal.returns-then-total-size
returns-then-total-size c =
    too_much c.loop-i.invariant c.entry_at.ensures c.in-Some.is c.place_size-size.ensures c.if-total-size.true

pub loop-i-smaller : goal.loop-i-smaller
loop-i-smaller c =
    let step = entry-step _ c.entry_at.ensures c.in-Some.is in
    omega (arith, step.onward, step.most)

pub loop-i-preserved : goal.loop-i-preserved
loop-i-preserved c =
    more-measured c.loop-i.invariant c.entry_at.ensures c.in-Some.is c.place_size-size.ensures c.if-total-size.false

pub returns-in_default : goal.returns-in_default
returns-in_default c = broken-measured c.loop-i.invariant c.loop-i-test.true c.entry_at.ensures c.in_default.is

pub returns : goal.returns
returns c = all-measured c.loop-i.invariant c.loop-i-test.false
