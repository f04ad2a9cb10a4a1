-- RULES 14.4: the input of `pieces`, three lines, and when it is refused.
use Rattle.std.specs.Prelude.{ℕ, ◌≡◌, Bool, cond, ◌&&◌, List, [], ◌∷◌, ◌++◌, leb, eqb, length, get_or}
use Rattle.note.specs.Refusals.{also, verdict, Verdict}
use Rattle.note.specs.Faults.{text_faults}

-- a byte in front of the first of some runs
abbrev pub in_front : ℕ → List (List ℕ) → List (List ℕ)
in_front b [] = (b ∷ []) ∷ []
in_front b (l ∷ ls) = (b ∷ l) ∷ ls

-- the runs of bytes before, between and after the LFs
unfoldable pub runs : List ℕ → List (List ℕ)
runs [] = [] ∷ []
runs (b ∷ bs) = cond (eqb b 0x0A) ([] ∷ runs bs) (in_front b (runs bs))

-- runs with an LF between each two
unfoldable pub joined_lines : List (List ℕ) → List ℕ
joined_lines [] = []
joined_lines (l ∷ []) = l
joined_lines (l ∷ m ∷ ls) = l ++ (0x0A ∷ joined_lines (m ∷ ls))

-- CLAIM: the runs are the input, cut at its LFs.
abbrev pub RunsJoined : Type 0
RunsJoined = (input : List ℕ) → joined_lines (runs input) ≡ input

-- the three lines
unfoldable pub line_at : ℕ → List ℕ → List ℕ
line_at k input = get_or (runs input) k []

abbrev pub literal_of : List ℕ → List ℕ
literal_of = line_at 0

abbrev pub behavior_line : List ℕ → List ℕ
behavior_line = line_at 1

abbrev pub note_of : List ℕ → List ℕ
note_of = line_at 2

-- a digit from 1 to 5
abbrev pub choice : ℕ → Bool
choice b = leb 0x31 b && leb b 0x35

-- three LFs and nothing after the third; the second line is one digit
unfoldable pub shaped : List ℕ → Bool
shaped input =
    eqb (length (runs input)) 4 && eqb (length (line_at 3 input)) 0
    && eqb (length (behavior_line input)) 1 && choice (get_or (behavior_line input) 0 0)

-- the most bytes of the literal and of the note, LF not counted; `LONGEST` in the code
abbrev pub longest : ℕ
longest = 8192

-- the two lines are judged together
abbrev pub lines_verdict : List ℕ → List ℕ → Verdict
lines_verdict literal note = verdict (also (text_faults longest literal) (text_faults longest note))
