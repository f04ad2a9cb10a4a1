-- Each turn counts one number.
use Rattle.word_pairs.proofs.Counts.{Zeros}
use Rattle.word_pairs.proofs.zeros.Given as goal

abbrev pub invariant-loop-x : goal.invariant-loop-x
invariant-loop-x l = Zeros l.column l.count l.x-index
