-- RULES 15.10: a list of pairs, a literal and its filler each, as a call is passed it: the bytes of all words end to
-- end, and the size of each word.
use Rattle.std.specs.Prelude.{ℕ, ◌+◌, ◌*◌, ◌%◌, ◌≤◌, Bool, true, not, ◌&&◌, List, [], ◌∷◌, leb, eqb, length, take, drop}
use Rattle.buffers.specs.Splice.{part}
use Rattle.utf8.specs.Formed.{well_formed}
use Rattle.note.specs.declared.Refusal.{Refusal}
use Rattle.note.specs.declared.Refusal.TheVariants.{IllFormed, TooLong, LengthMismatch}
use Rattle.note.specs.Refusals.{none, meets}
use Rattle.redact_note.specs.Chain.{Pair}

-- the words, one after the other
unfoldable pub words_of : List ℕ → List ℕ → List (List ℕ)
words_of bytes [] = []
words_of bytes (size ∷ sizes) = take size bytes ∷ words_of (drop size bytes) sizes

-- two by two: a literal and its filler
unfoldable pub in_pairs : List (List ℕ) → List Pair
in_pairs [] = []
in_pairs (word ∷ []) = []
in_pairs (literal ∷ content ∷ words) = record { literal = literal; content = content } ∷ in_pairs words

abbrev pub pairs_of : List ℕ → List ℕ → List Pair
pairs_of bytes sizes = in_pairs (words_of bytes sizes)

unfoldable pub total : List ℕ → ℕ
total [] = 0
total (size ∷ sizes) = size + total sizes

-- a filler for each literal, and as many bytes as the sizes say
unfoldable pub even_words : List ℕ → List ℕ → Bool
even_words bytes sizes = eqb (length sizes % 2) 0 && eqb (total sizes) (length bytes)

unfoldable pub all_formed : List (List ℕ) → Bool
all_formed [] = true
all_formed (word ∷ words) = well_formed word && all_formed words

-- the refusals of a list of pairs: more pairs than the limit, not even, a word that is not UTF-8
abbrev pub word_faults : ℕ → List ℕ → List ℕ → Refusal → Bool
word_faults most bytes sizes =
    meets TooLong (not (leb (length sizes) (2 * most)))
    (meets LengthMismatch (not (even_words bytes sizes))
    (meets IllFormed (not (all_formed (words_of bytes sizes))) none))

-- the pair whose literal is at..middle and whose filler is middle..end of the bytes
abbrev pub pair_cut : List ℕ → ℕ → ℕ → ℕ → Pair
pair_cut bytes at middle end = record { literal = part bytes at middle; content = part bytes middle end }

pub record Cut (bytes : List ℕ) (at middle end : ℕ) : Type 0 where
  pub first : at ≤ middle
  pub second : middle ≤ end
  pub inside : end ≤ length bytes
