use mathlib.Core.Path.{ap}
use mathlib.Core.Bool.{not}
use native.Mathlib.Omega.{arith}
use Rattle.pattern.proofs.Entries.{entry-step}
use Rattle.published_alike.proofs.Walk.{none-walked, lying, one-walked, one-unlike, broken-walked, all-walked}
use Rattle.published_alike.proofs.columns_alike.Goals as goal

pub loop-i-init : goal.loop-i-init
loop-i-init c = none-walked _ c.requires

pub column_alike-requires : goal.column_alike-requires
column_alike-requires c = lying c.loop-i.invariant c.entry_at.ensures c.in-Some.is

pub returns-then-not-column_alike : goal.returns-then-not-column_alike
returns-then-not-column_alike c =
    one-unlike c.loop-i.invariant c.entry_at.ensures c.in-Some.is c.column_alike.ensures (ap not c.if-not-column_alike.true)

pub loop-i-smaller : goal.loop-i-smaller
loop-i-smaller c =
    let step = entry-step _ c.entry_at.ensures c.in-Some.is in
    omega (arith, step.onward, step.most)

pub loop-i-preserved : goal.loop-i-preserved
loop-i-preserved c =
    one-walked c.loop-i.invariant c.entry_at.ensures c.in-Some.is c.column_alike.ensures (ap not c.if-not-column_alike.false)

pub returns-in_default : goal.returns-in_default
returns-in_default c = broken-walked c.loop-i.invariant c.loop-i-test.true c.entry_at.ensures c.in_default.is

pub returns : goal.returns
returns c = all-walked c.loop-i.invariant c.loop-i-test.false
