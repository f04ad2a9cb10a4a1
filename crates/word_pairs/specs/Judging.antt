-- What the judging of words, past their number, says.
use Rattle.std.specs.Prelude.{ℕ, cond, List, eqb, length, Err}
use Rattle.note.specs.declared.Refusal.TheVariants.{IllFormed, LengthMismatch}
use Rattle.word_pairs.specs.Words.{words_of, total, all_formed}
use Rattle.note.specs.Refusals.{Verdict, Accepted}

-- the sizes add up to all the bytes, then each word is UTF-8
unfoldable pub words_judged : List ℕ → List ℕ → Verdict
words_judged bytes sizes =
    cond (eqb (total sizes) (length bytes))
    (cond (all_formed (words_of bytes sizes)) Accepted (Err IllFormed))
    (Err LengthMismatch)
