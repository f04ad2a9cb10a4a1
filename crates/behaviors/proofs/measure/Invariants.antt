-- Each turn counts the run that is over, if it gives a piece; the last run is counted after the loop.
use Prim.Native.Nat.{◌-◌}
use lib.ListN.{length}
use Rattle.note.specs.Notes.{limit}
use Rattle.behaviors.proofs.Runs.{Counting}
use Rattle.behaviors.proofs.measure.Given as goal

abbrev pub invariant-loop-i : goal.invariant-loop-i
invariant-loop-i l = Counting limit l.list l.behavior l.empty l.sizes l.run l.i

abbrev pub decreases-loop-i : goal.decreases-loop-i
decreases-loop-i l = length l.list - l.i
