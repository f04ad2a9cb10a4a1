-- Each turn counts one match, and what is before it.
use Prim.Native.Nat.{◌-◌}
use lib.ListN.{length}
use Rattle.find.proofs.Found.{CountedPlaces}
use Rattle.find.proofs.count_places.Given as goal

abbrev pub invariant-loop-p : goal.invariant-loop-p
invariant-loop-p l = CountedPlaces l.text l.literal l.count l.at l.p

abbrev pub decreases-loop-p : goal.decreases-loop-p
decreases-loop-p l = length l.text - l.at
