-- Each turn lays the line of a run.
use Prim.Native.Nat.{◌-◌}
use lib.ListN.{length}
use Rattle.alignment_lines.proofs.Lines.{Lining}
use Rattle.alignment_lines.proofs.write_lines.Given as goal

abbrev pub invariant-loop-at : goal.invariant-loop-at
invariant-loop-at l = Lining l.starts l.ends l.initial.out l.out l.at l.size

abbrev pub decreases-loop-at : goal.decreases-loop-at
decreases-loop-at l = length l.starts - l.at
