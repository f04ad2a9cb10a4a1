-- RULES 15.10: how often the literals, or the fillers, of a list of pairs are in a text.
use Rattle.std.specs.Prelude.{ℕ, ◌-◌, ◌/◌, ◌≤◌, ◌≡◌, ◌==◌, true, List, map, count_by, length}
use Rattle.note.specs.Notes.{limit}
use Rattle.find.specs.Matching.{found_places}
use Rattle.redact_note.specs.Redacting.{match_count}
use Rattle.redact_note.specs.Chain.{Pair}
use Rattle.word_pairs.specs.declared.Word.{Word}
use Rattle.word_pairs.specs.declared.Word.TheVariants.{Literal, Filler}
use Rattle.word_pairs.specs.Words.{even_words}

-- one word of a pair
abbrev pub word_in : Word → Pair → List ℕ
word_in Literal p = p.literal
word_in Filler p = p.content

-- how many matches that word of each pair has in a text
unfoldable pub word_counts : Word → List ℕ → List Pair → List ℕ
word_counts which text ps = map (λ p. match_count (found_places text (word_in which p))) ps

-- how many numbers are 0, and how many are not
abbrev pub zero_count : List ℕ → ℕ
zero_count xs = count_by (λ x. x == 0) xs

abbrev pub some_count : List ℕ → ℕ
some_count xs = length xs - zero_count xs

-- what is known before words are counted: a text within the limit, pairs, and room for a number for each
pub record Countable (text bytes sizes column : List ℕ) : Type 0 where
  pub short : length text ≤ limit
  pub even : even_words bytes sizes ≡ true
  pub room : length sizes / 2 ≤ length column
