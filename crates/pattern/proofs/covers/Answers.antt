use mathlib.Core.Path.{ap}
use mathlib.Core.Bool.{not}
use native.Mathlib.Omega.{arith}
use Rattle.pattern.proofs.Entries.{entry-step}
use Rattle.pattern.proofs.Places.{next-covered, not_covered, broken-covered, all-covered}
use Rattle.pattern.proofs.Placed.{judged-covered}
use Rattle.pattern.proofs.covers.Goals as goal

pub loop-i-init : goal.loop-i-init
loop-i-init c = judged-covered c.judge_blocks-judged.ensures

pub returns-then-not-fits_at : goal.returns-then-not-fits_at
returns-then-not-fits_at c =
    not_covered c.loop-i.invariant c.entry_at.ensures c.in-Some.is c.fits_at.ensures (ap not c.if-not-fits_at.true)

pub loop-i-smaller : goal.loop-i-smaller
loop-i-smaller c =
    let step = entry-step _ c.entry_at.ensures c.in-Some.is in
    omega (arith, step.onward, step.most)

pub loop-i-preserved : goal.loop-i-preserved
loop-i-preserved c =
    next-covered c.loop-i.invariant c.entry_at.ensures c.in-Some.is c.fits_at.ensures (ap not c.if-not-fits_at.false)

pub returns-in_default : goal.returns-in_default
returns-in_default c = broken-covered c.loop-i.invariant c.loop-i-test.true c.entry_at.ensures c.in_default.is

pub returns : goal.returns
returns c = all-covered c.loop-i.invariant c.loop-i-test.false
