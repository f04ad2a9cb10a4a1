-- What the contracts of the inner functions of reading names are said with.
use Rattle.std.specs.Prelude.{ℕ, suc, ◌+◌, ◌≤◌, ◌<◌, ◌≡◌, Bool, true, cond, ◌&&◌, List, [], ◌∷◌, ◌++◌, eqb, length, get_or, is_ok, IfOk, Result}
use Rattle.buffers.specs.Splice.{splice, Laid}
use Rattle.name_lines.specs.declared.BadLine.{BadLine}
use Rattle.name_lines.specs.declared.Names.{Names}
use Rattle.name_lines.specs.Lines.{lines_of}
use Rattle.name_lines.specs.Names.{tab_at, literal_of, filler_of, line_judged, names_of, words_in, sizes_in, names_answer}

-- how many bytes end a line at i: LF, CR LF, or none
unfoldable pub end_len : List ℕ → ℕ → ℕ
end_len s i = cond (eqb (get_or s i 0) 0x0A) 1 (cond (eqb (get_or s i 0) 0x0D && eqb (get_or s (i + 1) 0) 0x0A) 2 0)

-- how many bytes the first line has, without what ends it
unfoldable pub line_len : List ℕ → ℕ
line_len [] = 0
line_len (b ∷ s) = cond (eqb (end_len (b ∷ s) 0) 0) (suc (line_len s)) 0

-- no line is bad
unfoldable pub all_good : List (List ℕ) → Bool
all_good [] = true
all_good (l ∷ ls) = is_ok (line_judged l) && all_good ls

-- there are no more bytes and no more sizes than the file has bytes
pub record Judged (text : List ℕ) (r : Result Names BadLine) : Type 0 where
  pub answer : r ≡ names_answer text
  pub few : IfOk r (λ n. (n.bytes ≤ length text) × (n.sizes ≤ length text))

-- a line with a tab, room for its words and for their sizes
pub record LineRoom (line words : List ℕ) (at : ℕ) (sizes : List ℕ) (k : ℕ) : Type 0 where
  pub tab : tab_at line < length line
  pub short : length line < 0x100000000
  pub room : at + length (literal_of line ++ filler_of line) ≤ length words
  pub sizes_room : k + 2 ≤ length sizes

-- they are laid, and the words end at r
pub record LinePut (line words₀ : List ℕ) (at : ℕ) (sizes₀ : List ℕ) (k r : ℕ) (words sizes : List ℕ) : Type 0 where
  pub laid : Laid (literal_of line ++ filler_of line) words₀ at r words
  pub sizes_laid : sizes ≡ splice sizes₀ k (length (literal_of line) ∷ length (filler_of line) ∷ [])

-- a file without a bad line, and room for all words and sizes
pub record Writable (text words sizes : List ℕ) : Type 0 where
  pub good : all_good (lines_of text) ≡ true
  pub short : length text < 0x100000000
  pub words_fit : length (words_in (names_of text)) ≤ length words
  pub sizes_fit : length (sizes_in (names_of text)) ≤ length sizes
