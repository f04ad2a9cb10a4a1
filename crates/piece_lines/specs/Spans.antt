-- The lines of spans of one text, and the line in front of them: what the contracts of the writers are said with.
use Rattle.std.specs.Prelude.{ℕ, ◌+◌, ◌*◌, ◌≤◌, ◌<◌, true, ◌≡◌, List, [], ◌∷◌, ◌++◌, length, get_or}
use Rattle.buffers.specs.Splice.{part}
use Rattle.utf8.specs.Formed.{well_formed}
use Rattle.numbers.specs.Decimal.{field}
use Rattle.pattern.specs.Entries.{places_of}
use Rattle.pattern.specs.Places.{covers}
use Rattle.piece_lines.specs.Input.{longest}

-- a line: start, end, and the bytes
unfoldable pub line : ℕ → ℕ → List ℕ → List ℕ
line start end text = field start 0x20 ++ field end 0x20 ++ text ++ (0x0A ∷ [])

-- the lines of spans that come in two columns
unfoldable pub span_lines : List ℕ → List ℕ → List ℕ → List ℕ
span_lines text [] es = []
span_lines text (s ∷ ss) [] = []
span_lines text (s ∷ ss) (e ∷ es) = line s e (part text s e) ++ span_lines text ss es

-- `pieces `, which is in front of their number
abbrev pub pieces_word : List ℕ
pieces_word = 0x70 ∷ 0x69 ∷ 0x65 ∷ 0x63 ∷ 0x65 ∷ 0x73 ∷ 0x20 ∷ []

-- the number of spans, and their lines
unfoldable pub spans_text : List ℕ → List ℕ → List ℕ → List ℕ
spans_text text starts ends = pieces_word ++ field (length starts) 0x0A ++ span_lines text starts ends

-- spans of a text
pub record LineSpans (text starts ends : List ℕ) : Type 0 where
  pub alike : length starts ≡ length ends
  pub ordered : (i : ℕ) → i < length starts → get_or starts i 0 ≤ get_or ends i 0
  pub inside : (i : ℕ) → i < length starts → get_or ends i 0 ≤ length text

-- a list of not too many places that cover a text, which is UTF-8 and not too long
pub record Cuttable (list text : List ℕ) : Type 0 where
  pub brief : length text ≤ longest
  pub formed : well_formed text ≡ true
  pub covered : covers text list ≡ true
  pub few : length (places_of list) ≤ 2 * longest + 1
