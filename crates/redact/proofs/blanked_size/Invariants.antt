-- Each turn adds what is before a match, and a content for the match.
use Prim.Native.Nat.{◌-◌}
use lib.ListN.{length}
use Rattle.redact.proofs.BlankedSize.{Sizing}
use Rattle.redact.proofs.blanked_size.Given as goal

abbrev pub invariant-loop-p : goal.invariant-loop-p
invariant-loop-p l = Sizing l.text l.literal l.content_len l.total l.at l.p

abbrev pub decreases-loop-p : goal.decreases-loop-p
decreases-loop-p l = length l.text - l.at
