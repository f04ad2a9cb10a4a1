-- Each turn tells of one literal.
use Rattle.word_pairs.proofs.Words.{At}
use Rattle.redact_main.proofs.telling.tell_blanked.Given as goal

abbrev pub invariant-loop-k : goal.invariant-loop-k
invariant-loop-k g l = At l.words l.sizes l.k l.at
