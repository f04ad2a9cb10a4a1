-- Each turn passes 64 positions at which the literal cannot stand.
use Prim.Native.Nat.{◌-◌}
use lib.ListN.{length}
use Rattle.find.specs.Searching.{Absent}
use Rattle.find.proofs.search.next_candidate.Given as goal

abbrev pub invariant-loop-i : goal.invariant-loop-i
invariant-loop-i l = Absent l.text l.literal l.from l.i

abbrev pub decreases-loop-i : goal.decreases-loop-i
decreases-loop-i l = length l.text - l.i
