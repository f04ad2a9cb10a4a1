-- Each turn compares one more place.
use Prim.Native.Nat.{◌-◌}
use lib.ListN.{length}
use Rattle.published_alike.specs.Walk.{text_alike}
use Rattle.published_alike.proofs.Walk.{WalkedTo}
use Rattle.published_alike.proofs.texts_alike.Given as goal

abbrev pub invariant-loop-i : goal.invariant-loop-i
invariant-loop-i l = WalkedTo (text_alike l.a l.b) l.a l.b l.list l.i

abbrev pub decreases-loop-i : goal.decreases-loop-i
decreases-loop-i l = length l.list - l.i
