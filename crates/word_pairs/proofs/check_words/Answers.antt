-- The number of sizes, then the words.
use Rattle.word_pairs.proofs.Judging.{many-refused, odd_refused, even-judged}
use Rattle.word_pairs.proofs.check_words.Goals as goal

pub returns-then-sizes : goal.returns-then-sizes
returns-then-sizes c = many-refused _ _ c.if-sizes.true

pub returns-then-sizes-ne0 : goal.returns-then-sizes-ne0
returns-then-sizes-ne0 c = odd_refused _ _ c.if-sizes.false c.if-sizes-ne0.true

pub returns : goal.returns
returns c = even-judged _ _ c.if-sizes.false c.if-sizes-ne0.false c.judge_words.ensures
