-- RULES 14.8: the pairs of a names file, a literal and its filler in each line, and which lines are bad.
use Rattle.std.specs.Prelude.{ℕ, suc, ◌+◌, ◌≡◌, Bool, true, cond, not, List, [], ◌∷◌, ◌++◌, map, ltb, eqb, length, take, drop, Result, Ok, Err, ⊤}
use Rattle.buffers.specs.Splice.{overlay}
use Rattle.utf8.specs.Formed.{well_formed}
use Rattle.redact_note.specs.Chain.{Pair}
use Rattle.word_pairs.specs.Words.{pairs_of, even_words}
use Rattle.name_lines.specs.declared.LineFault.{LineFault}
use Rattle.name_lines.specs.declared.LineFault.TheVariants.{NotUtf8, NoTab, TwoTabs, NoLiteral}
use Rattle.name_lines.specs.declared.BadLine.{BadLine}
use Rattle.name_lines.specs.declared.Names.{Names}
use Rattle.name_lines.specs.Lines.{lines_of}

-- how many bytes of a line are before its first tab; all where it has none
unfoldable pub tab_at : List ℕ → ℕ
tab_at [] = 0
tab_at (b ∷ s) = cond (eqb b 0x09) 0 (suc (tab_at s))

unfoldable pub has_tab : List ℕ → Bool
has_tab line = ltb (tab_at line) (length line)

-- what is before the first tab, and what is after it
unfoldable pub literal_of : List ℕ → List ℕ
literal_of line = take (tab_at line) line

unfoldable pub filler_of : List ℕ → List ℕ
filler_of line = drop (tab_at line + 1) line

-- a line is bad where it is not UTF-8, has no tab, has more than one, or has nothing before it
unfoldable pub line_judged : List ℕ → Result ⊤ LineFault
line_judged line =
    cond (not (well_formed line)) (Err NotUtf8)
    (cond (not (has_tab line)) (Err NoTab)
    (cond (has_tab (filler_of line)) (Err TwoTabs)
    (cond (eqb (tab_at line) 0) (Err NoLiteral) (Ok tt))))

-- the pairs of lines
abbrev pub pair_in : List ℕ → Pair
pair_in line = record { literal = literal_of line; content = filler_of line }

unfoldable pub pairs_in : List (List ℕ) → List Pair
pairs_in lines = map pair_in lines

-- THE PAIRS of a names file
unfoldable pub names_of : List ℕ → List Pair
names_of text = pairs_in (lines_of text)

-- the words of pairs end to end, and the size of each
unfoldable pub words_in : List Pair → List ℕ
words_in [] = []
words_in (p ∷ ps) = p.literal ++ p.content ++ words_in ps

unfoldable pub sizes_in : List Pair → List ℕ
sizes_in [] = []
sizes_in (p ∷ ps) = length p.literal ∷ length p.content ∷ sizes_in ps

-- a line's number where it is bad, and what else is said where it is not
abbrev pub unless_faulty : Result ⊤ LineFault → ℕ → Result Names BadLine → Result Names BadLine
unless_faulty (Ok u) n others = others
unless_faulty (Err k) n others = Err (record { number = n; fault = k })

-- the first bad one of lines whose first has the number n, and what else is said where all are good
unfoldable pub first_bad : List (List ℕ) → ℕ → Result Names BadLine → Result Names BadLine
first_bad [] n others = others
first_bad (l ∷ ls) n others = unless_faulty (line_judged l) n (first_bad ls (n + 1) others)

-- what is said of a names file: the first bad line; or how many bytes and how many words it has
unfoldable pub names_answer : List ℕ → Result Names BadLine
names_answer text =
    first_bad (lines_of text) 1
    (Ok (record { bytes = length (words_in (names_of text)); sizes = length (sizes_in (names_of text)) }))

-- what a buffer holds then: a result in front, or what it held
abbrev pub held_after : Result Names BadLine → List ℕ → List ℕ → List ℕ
held_after (Ok names) result d = overlay result d
held_after (Err bad) result d = d

-- THE CALL: the words are in front of one buffer, their sizes in front of another one
pub record NamesRead (text words₀ sizes₀ : List ℕ) (r : Result Names BadLine) (words sizes : List ℕ) : Type 0 where
  pub answer : r ≡ names_answer text
  pub words_are : words ≡ held_after r (words_in (names_of text)) words₀
  pub sizes_are : sizes ≡ held_after r (sizes_in (names_of text)) sizes₀

-- CLAIM: what is written are the pairs of the lines, as a call is passed them.
abbrev pub NamesArePairs : Type 0
NamesArePairs = (text words₀ sizes₀ : List ℕ) (m k : ℕ) (words sizes : List ℕ)
    → NamesRead text words₀ sizes₀ (Ok (record { bytes = m; sizes = k })) words sizes
    → (pairs_of (take m words) (take k sizes) ≡ names_of text) × (even_words (take m words) (take k sizes) ≡ true)
