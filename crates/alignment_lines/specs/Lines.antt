-- RULES 14.1: alignments as lines, one for each longest run of bytes with one alignment: the run's first byte, its
-- number of bytes, transcript start and transcript end, in decimal, tabs between them, LF at the end.
use Rattle.std.specs.Prelude.{ℕ, zero, suc, ◌+◌, ◌*◌, ◌≤◌, cond, ◌&&◌, List, [], ◌∷◌, ◌++◌, eqb, length}
use Rattle.numbers.specs.Decimal.{field}
use Rattle.note.specs.Notes.{limit}

-- how many alignments in front are (start, end)
unfoldable pub run_of : ℕ → ℕ → List ℕ → List ℕ → ℕ
run_of start end [] es = 0
run_of start end (s ∷ ss) [] = 0
run_of start end (s ∷ ss) (e ∷ es) = cond (eqb s start && eqb e end) (suc (run_of start end ss es)) 0

-- the line of a run
unfoldable pub line_of : ℕ → ℕ → ℕ → ℕ → List ℕ
line_of first count start end = field first 0x09 ++ field count 0x09 ++ field start 0x09 ++ field end 0x0A

-- the lines of the runs from byte `at` on, after `passed` bytes of a run before them
unfoldable pub lines_from : ℕ → ℕ → List ℕ → List ℕ → List ℕ
lines_from at passed [] es = []
lines_from at passed (s ∷ ss) [] = []
lines_from at zero (s ∷ ss) (e ∷ es) =
    line_of at (suc (run_of s e ss es)) s e ++ lines_from (suc at) (run_of s e ss es) ss es
lines_from at (suc passed) (s ∷ ss) (e ∷ es) = lines_from (suc at) passed ss es

-- the lines of two columns of starts and ends
unfoldable pub lines_of : List ℕ → List ℕ → List ℕ
lines_of starts ends = lines_from 0 0 starts ends

-- bytes that are enough for a line: four numbers of five digits, each with a byte after it; `LINE` in the code
abbrev pub longest_line : ℕ
longest_line = 4 * (5 + 1)

-- CLAIM: so they are, for numbers within the limit.
abbrev pub LineBounded : Type 0
LineBounded = (first count start end : ℕ) → first ≤ limit → count ≤ limit → start ≤ limit → end ≤ limit
    → length (line_of first count start end) ≤ longest_line
