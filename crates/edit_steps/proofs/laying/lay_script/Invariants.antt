-- Each turn lays down one more command.
use Prim.Native.Nat.{◌-◌, ◌≤◌}
use lib.ListN.{length, drop}
use Rattle.script.specs.Scripts.{commands_of}
use Rattle.edit_steps.proofs.Given.{Going}
use Rattle.edit_steps.proofs.laying.lay_script.Given as goal

abbrev pub invariant-loop-i : goal.invariant-loop-i
invariant-loop-i l = (l.i ≤ length l.script)
    × Going l.text l.starts l.ends l.to.0 l.initial.progress.position.0 (commands_of l.script) l.initial.out l.initial.out_starts l.initial.out_ends l.at l.progress (commands_of (drop l.i l.script)) l.out l.out_starts l.out_ends

abbrev pub decreases-loop-i : goal.decreases-loop-i
decreases-loop-i l = length l.script - l.i
