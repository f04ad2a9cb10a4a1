use Rattle.std.proofs.Common.{◌≡◌, [], drop}
use Rattle.pattern.specs.Entries.{places_of}
use native.Mathlib.Omega.{arith}
use Rattle.pattern.proofs.Entries.{entry-step}
use Rattle.behaviors.proofs.Tests.{joined_by_lem, over_by, onward-by}
use Rattle.behaviors.proofs.Runs.{none-counting, addable, next-counted, all-counted, none-measured, done-broken, done-past}
use Rattle.behaviors.proofs.measure.Goals as goal
use Rattle.behaviors.proofs.measure.Goals.{else-loop-i-test, then-loop-i-test+in_default-entry_at}

pub returns-in_default : goal.returns-in_default
returns-in_default c = none-measured _ c.entry_at.ensures c.in_default.is _ _

pub loop-i-init : goal.loop-i-init
loop-i-init c = none-counting _ _ c.requires c.entry_at.ensures c.in-Some.is

pub counted-sizes-requires : goal.counted-sizes-requires
counted-sizes-requires c = addable c.loop-i.invariant (omega arith) (omega arith)

pub loop-i-smaller : goal.loop-i-smaller
loop-i-smaller c =
    let step = entry-step _ c.entry_at-in-loop-i.ensures c.in-Some-entry_at.is in
    omega (arith, step.onward, step.most)

pub loop-i-preserved : goal.loop-i-preserved
loop-i-preserved c =
    let joins = joined_by_lem _ _ _ c.join_table-table.ensures c.joined-joins.ensures in
    next-counted c.loop-i.invariant c.entry_at-in-loop-i.ensures c.in-Some-entry_at.is
    (over_by _ _ _ _ joins c.is_kept_run.ensures) c.counted-sizes.ensures (onward-by _ _ _ joins c.extend_run-run.ensures)

pub counted-requires : goal.counted-requires
counted-requires c = addable c.loop-i.invariant (omega arith) (omega arith)

pub returns : goal.returns
returns c =
    let done : places_of (drop c.loop-i.i c.args.list.now) ≡ [] =
    elim c.loop-i-test.branch [
      | else-loop-i-test w ↦ done-past _ w.loop-i-test.false
      | then-loop-i-test+in_default-entry_at w ↦ done-broken _ w.loop-i-test.true w.entry_at-in-loop-i.ensures w.in_default-entry_at.is
    ] in
    all-counted c.loop-i.invariant done c.is_kept_run-2.ensures c.counted.ensures
