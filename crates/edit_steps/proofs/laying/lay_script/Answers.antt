use native.Mathlib.Omega.{arith}
use Rattle.script.proofs.Scripts.{Stepped, entry-step, entry-broken, entries-end}
use Rattle.edit_steps.proofs.Given.{none_going, command-room, counting, going-over, below_all, gone}
use Rattle.edit_steps.proofs.laying.lay_script.Goals as goal
use Rattle.edit_steps.proofs.laying.lay_script.Goals.{In-Some}

-- the command that a turn reads, and where it goes on
step : (c : In-Some) → Stepped c.args.script.now c.loop-i.i c.in-Some.command c.in-Some.next
step c = entry-step _ c.entry_at.ensures c.in-Some.is

pub loop-i-init : goal.loop-i-init
loop-i-init c = (omega arith, none_going c.requires.0)

pub lay_command-requires : goal.lay_command-requires
lay_command-requires c =
    (command-room c.requires.0 c.loop-i.invariant.1 (step (goal.at.lay_command-requires c).In-Some).commands, below_all c.requires.0 c.loop-i.invariant.1 c.requires.1)

pub advanced-progress-requires : goal.advanced-progress-requires
advanced-progress-requires c =
    counting c.requires.0 c.loop-i.invariant.1 (step (goal.at.advanced-progress-requires c).In-Some).commands (omega arith)

pub loop-i-smaller : goal.loop-i-smaller
loop-i-smaller c = omega (arith, step (goal.at.loop-i-smaller c).In-Some)

pub loop-i-preserved : goal.loop-i-preserved
loop-i-preserved c =
    ((step (goal.at.loop-i-preserved c).In-Some).most, going-over c.requires.0 c.loop-i.invariant.1 (step (goal.at.loop-i-preserved c).In-Some).commands c.lay_command.ensures c.requires.1 c.advanced-progress.ensures)

pub shape_of-out-in_default : goal.shape_of-out-in_default
shape_of-out-in_default c = c.loop-i.invariant.1.text_laid.same

pub shape_of-out_starts-in_default : goal.shape_of-out_starts-in_default
shape_of-out_starts-in_default c = c.loop-i.invariant.1.starts_laid.same

pub shape_of-out_ends-in_default : goal.shape_of-out_ends-in_default
shape_of-out_ends-in_default c = c.loop-i.invariant.1.ends_laid.same

pub returns-in_default : goal.returns-in_default
returns-in_default c =
    gone c.requires.0 c.loop-i.invariant.1 (entry-broken _ c.loop-i-test.true c.entry_at.ensures c.in_default.is).0

pub shape_of-out : goal.shape_of-out
shape_of-out c = c.loop-i.invariant.1.text_laid.same

pub shape_of-out_starts : goal.shape_of-out_starts
shape_of-out_starts c = c.loop-i.invariant.1.starts_laid.same

pub shape_of-out_ends : goal.shape_of-out_ends
shape_of-out_ends c = c.loop-i.invariant.1.ends_laid.same

pub returns : goal.returns
returns c = gone c.requires.0 c.loop-i.invariant.1 (entries-end _ c.loop-i-test.false).0
