-- Each turn counts one match.
use Prim.Native.Nat.{◌-◌}
use lib.ListN.{length}
use Rattle.redact_note.proofs.MatchCount.{Counting}
use Rattle.redact_note.proofs.count_matches.Given as goal

abbrev pub invariant-loop-p : goal.invariant-loop-p
invariant-loop-p l = Counting l.text l.literal l.count l.p

abbrev pub decreases-loop-p : goal.decreases-loop-p
decreases-loop-p l = length l.text - l.p
