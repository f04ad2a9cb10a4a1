-- Each turn goes back by one flag.
use Rattle.filter_blocks.proofs.Chars.{Back}
use Rattle.filter_blocks.proofs.before_four.Given as goal

abbrev pub invariant-loop-i : goal.invariant-loop-i
invariant-loop-i l = Back l.flags l.n l.i
