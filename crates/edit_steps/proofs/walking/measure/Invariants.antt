-- Each turn passes one command, unless it starves.
use Prim.Native.Nat.{◌-◌}
use lib.ListN.{length}
use Rattle.edit_steps.proofs.Measured.{Measuring}
use Rattle.edit_steps.proofs.walking.measure.Given as goal

abbrev pub invariant-loop-i : goal.invariant-loop-i
invariant-loop-i l = Measuring l.text l.to.0 l.initial.progress.position.0 l.script l.progress l.i

abbrev pub decreases-loop-i : goal.decreases-loop-i
decreases-loop-i l = length l.script - l.i
