-- The matches from the first one on; they are fewer than the text's bytes.
use native.Mathlib.Omega.{arith}
use Rattle.redact_note.proofs.MatchCount.{found-matched}
use Rattle.word_pairs.proofs.count_word.Goals as goal

pub overflow_cast-result : goal.overflow_cast-result
overflow_cast-result c = let all = found-matched _ _ c.requires c.count_matches.ensures in omega (arith, all.few, all.short)
