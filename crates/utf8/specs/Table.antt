-- The Unicode Standard, Table 3-7, "Well-Formed UTF-8 Byte Sequences", row by row.
use Rattle.std.specs.Prelude.{ℕ, ◌≡◌, Bool, true, false, ◌&&◌, ◌||◌, List, [], ◌∷◌, ◌++◌, leb}

-- a column of a row: the bytes from the first number to the second, both included
pub data Bytes : Type 0 where
  bytes : ℕ → ℕ → Bytes

unfoldable pub within : Bytes → ℕ → Bool
within (bytes low high) b = leb low b && leb b high

-- 80..BF, which is in every column after the second
abbrev pub trail : Bytes
trail = bytes 0x80 0xBF

unfoldable pub rows : List (List Bytes)
rows =
    (bytes 0x00 0x7F ∷ [])  -- U+0000..U+007F
    ∷ (bytes 0xC2 0xDF ∷ trail ∷ [])  -- U+0080..U+07FF
    ∷ (bytes 0xE0 0xE0 ∷ bytes 0xA0 0xBF ∷ trail ∷ [])  -- U+0800..U+0FFF
    ∷ (bytes 0xE1 0xEC ∷ trail ∷ trail ∷ [])  -- U+1000..U+CFFF
    ∷ (bytes 0xED 0xED ∷ bytes 0x80 0x9F ∷ trail ∷ [])  -- U+D000..U+D7FF
    ∷ (bytes 0xEE 0xEF ∷ trail ∷ trail ∷ [])  -- U+E000..U+FFFF
    ∷ (bytes 0xF0 0xF0 ∷ bytes 0x90 0xBF ∷ trail ∷ trail ∷ [])  -- U+10000..U+3FFFF
    ∷ (bytes 0xF1 0xF3 ∷ trail ∷ trail ∷ trail ∷ [])  -- U+40000..U+FFFFF
    ∷ (bytes 0xF4 0xF4 ∷ bytes 0x80 0x8F ∷ trail ∷ trail ∷ [])  -- U+100000..U+10FFFF
    ∷ []

-- a sequence is of a row when it has a byte for each column, and each is in its column
unfoldable pub of_row : List Bytes → List ℕ → Bool
of_row [] [] = true
of_row [] (b ∷ s) = false
of_row (r ∷ rs) [] = false
of_row (r ∷ rs) (b ∷ s) = within r b && of_row rs s

unfoldable pub of_some : List (List Bytes) → List ℕ → Bool
of_some [] s = false
of_some (r ∷ rs) s = of_row r s || of_some rs s

-- RULES 3: a text is well-formed when it is a run of sequences, each of one row
pub data WellFormed : List ℕ → Type 0 where
  none : WellFormed []
  next : (s t : List ℕ) → of_some rows s ≡ true → WellFormed t → WellFormed (s ++ t)
