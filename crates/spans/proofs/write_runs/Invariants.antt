-- Each turn writes the run that is over, if it gives a piece; the last run is written after the loop.
use Prim.Native.Nat.{◌-◌}
use lib.ListN.{length}
use Rattle.note.specs.Notes.{limit}
use Rattle.spans.proofs.Placing.{Placing}
use Rattle.spans.proofs.write_runs.Given as goal

abbrev pub invariant-loop-i : goal.invariant-loop-i
invariant-loop-i l = Placing limit l.list l.behavior l.empty l.initial.spans l.run l.i l.at l.spans

abbrev pub decreases-loop-i : goal.decreases-loop-i
decreases-loop-i l = length l.list - l.i
