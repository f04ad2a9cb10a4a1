-- Each turn judges one word.
use Rattle.word_pairs.proofs.Judging.{Judging}
use Rattle.word_pairs.proofs.judge_words.Given as goal

abbrev pub invariant-loop-size : goal.invariant-loop-size
invariant-loop-size l = Judging l.bytes l.sizes l.formed l.at l.size-index
