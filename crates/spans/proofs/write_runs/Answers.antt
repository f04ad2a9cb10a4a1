use Rattle.std.proofs.Common.{◌≡◌, [], drop}
use Rattle.pattern.specs.Entries.{places_of}
use mathlib.Core.Path.{◌∙◌}
use native.Mathlib.Omega.{arith}
use Rattle.pattern.proofs.Entries.{entry-step}
use Rattle.behaviors.proofs.Tests.{joined_by_lem, over_by, onward-by}
use Rattle.behaviors.proofs.Runs.{none-listed, done-broken, done-past}
use Rattle.spans.proofs.Placing.{none-placed, nothing_placed, next-room, next-placed, last-room, all_placed}
use Rattle.spans.proofs.write_runs.Goals as goal
use Rattle.spans.proofs.write_runs.Goals.{else-loop-i-test, then-loop-i-test+in_default-entry_at}

pub returns-in_default : goal.returns-in_default
returns-in_default c = nothing_placed c.requires (omega arith) (none-listed _ c.entry_at.ensures c.in_default.is _ _)

pub loop-i-init : goal.loop-i-init
loop-i-init c = none-placed c.requires c.entry_at.ensures c.in-Some.is

pub write_run-at-requires : goal.write_run-at-requires
write_run-at-requires c =
    let joins = joined_by_lem _ _ _ c.join_table-table.ensures c.joined-joins.ensures in
    next-room c.loop-i.invariant c.entry_at-in-loop-i.ensures c.in-Some-entry_at.is (over_by _ _ _ _ joins c.is_kept_run.ensures)

pub loop-i-smaller : goal.loop-i-smaller
loop-i-smaller c =
    let step = entry-step _ c.entry_at-in-loop-i.ensures c.in-Some-entry_at.is in
    omega (arith, step.onward, step.most)

pub loop-i-preserved : goal.loop-i-preserved
loop-i-preserved c =
    let joins = joined_by_lem _ _ _ c.join_table-table.ensures c.joined-joins.ensures in
    next-placed c.loop-i.invariant c.entry_at-in-loop-i.ensures c.in-Some-entry_at.is
    (over_by _ _ _ _ joins c.is_kept_run.ensures) c.write_run-at.ensures (onward-by _ _ _ joins c.extend_run-run.ensures)

pub write_run-requires : goal.write_run-requires
write_run-requires c =
    let done : places_of (drop c.loop-i.i c.args.list.now) ≡ [] =
    elim c.loop-i-test.branch [
      | else-loop-i-test w ↦ done-past _ w.loop-i-test.false
      | then-loop-i-test+in_default-entry_at w ↦ done-broken _ w.loop-i-test.true w.entry_at-in-loop-i.ensures w.in_default-entry_at.is
    ] in
    last-room c.loop-i.invariant done c.is_kept_run-2.ensures

pub shape_of-spans : goal.shape_of-spans
shape_of-spans c = c.spans-2-1.given ∙ c.loop-i.invariant.laid.same

pub returns : goal.returns
returns c =
    let done : places_of (drop c.loop-i.i c.args.list.now) ≡ [] =
    elim c.loop-i-test.branch [
      | else-loop-i-test w ↦ done-past _ w.loop-i-test.false
      | then-loop-i-test+in_default-entry_at w ↦ done-broken _ w.loop-i-test.true w.entry_at-in-loop-i.ensures w.in_default-entry_at.is
    ] in
    all_placed c.loop-i.invariant done c.is_kept_run-2.ensures c.requires (omega arith) c.write_run.ensures
