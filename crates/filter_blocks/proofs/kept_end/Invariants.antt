-- Each turn goes back by a byte whose character is dropped.
use Rattle.filter_blocks.proofs.Chosen.{Ending}
use Rattle.filter_blocks.proofs.kept_end.Given as goal

abbrev pub invariant-loop-i : goal.invariant-loop-i
invariant-loop-i l = Ending l.text l.flags l.q l.i

abbrev pub decreases-loop-i : goal.decreases-loop-i
decreases-loop-i l = l.q
