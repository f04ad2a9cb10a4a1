-- By which word is asked for.
use Rattle.word_pairs.proofs.Counts.{literal-counted, filler-counted}
use Rattle.word_pairs.proofs.count_pair.Goals as goal

pub returns-in-Literal : goal.returns-in-Literal
returns-in-Literal c = literal-counted _ _ c.in-Literal.is c.count_word.ensures

pub returns-in-Filler : goal.returns-in-Filler
returns-in-Filler c = filler-counted _ _ c.in-Filler.is c.count_word-in-Filler.ensures
