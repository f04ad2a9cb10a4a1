-- Each turn adds one pair.
use Rattle.lowercase.proofs.Grown.{Summed}
use Rattle.lowercase.proofs.dotted.block_dotted.Given as goal

abbrev pub invariant-loop-i : goal.invariant-loop-i
invariant-loop-i l = Summed l.a l.b l.n l.i
