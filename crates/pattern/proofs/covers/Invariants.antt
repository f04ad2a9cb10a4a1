-- Each turn judges one more place; a place that does not fit, and the end, decide.
use Prim.Native.Nat.{◌-◌}
use lib.ListN.{length}
use Rattle.pattern.specs.Placed.{Covering}
use Rattle.pattern.proofs.covers.Given as goal

abbrev pub invariant-loop-i : goal.invariant-loop-i
invariant-loop-i l = Covering l.text l.list l.at l.i

abbrev pub decreases-loop-i : goal.decreases-loop-i
decreases-loop-i l = length l.list - l.i
