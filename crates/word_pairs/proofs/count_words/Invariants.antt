-- Each turn counts one pair.
use Rattle.word_pairs.proofs.Counts.{Counted}
use Rattle.word_pairs.proofs.count_words.Given as goal

abbrev pub invariant-loop-k : goal.invariant-loop-k
invariant-loop-k l = Counted l.which l.text l.bytes l.sizes l.initial.column l.column l.at l.k
