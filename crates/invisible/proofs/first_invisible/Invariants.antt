-- Each turn passes one character.
use Prim.Native.Nat.{◌-◌}
use lib.ListN.{length}
use Rattle.invisible.proofs.Characters.{Visible}
use Rattle.invisible.proofs.first_invisible.Given as goal

abbrev pub invariant-loop-i : goal.invariant-loop-i
invariant-loop-i l = Visible l.text l.i

abbrev pub decreases-loop-i : goal.decreases-loop-i
decreases-loop-i l = length l.text - l.i
