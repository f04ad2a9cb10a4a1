-- What a byte announces beside the rows of Table 3-7, and beside a table of 256 entries; the length of a character.
use Rattle.std.specs.Prelude.{ℕ, ◌+◌, ◌≤◌, ◌<◌, ◌≡◌, true, cond, List, [], ◌∷◌, ◌++◌, ltb, length, get_or, replicate}
use Rattle.utf8.specs.Table.{Bytes, within, rows}
use Rattle.utf8.specs.Formed.{announced, well_formed, boundary}

-- how many columns the row has whose first column has b; 0 where there is no such row
unfoldable pub columns_of : ℕ → List (List Bytes) → ℕ
columns_of b [] = 0
columns_of b ([] ∷ rs) = columns_of b rs
columns_of b ((c ∷ cs) ∷ rs) = cond (within c b) (length (c ∷ cs)) (columns_of b rs)

-- CLAIM: a byte announces as many bytes as its row of Table 3-7 has columns, and 0 where no row begins with it
abbrev pub AnnouncedRow : Type 0
AnnouncedRow = (b : ℕ) → b < 256 → announced b ≡ columns_of b rows

-- RULES 3.2 as a table of 256 entries, one for each byte
unfoldable pub length_table : List ℕ
length_table =
    replicate 0x80 1  -- 00..7F
    ++ (replicate 0x42 0  -- 80..C1
    ++ (replicate 0x1E 2  -- C2..DF
    ++ (replicate 0x10 3  -- E0..EF
    ++ (replicate 0x05 4  -- F0..F4
    ++ replicate 0x0B 0))))  -- F5..FF

-- CLAIM: the table has for each byte the number that it announces
abbrev pub LengthTableRight : Type 0
LengthTableRight = (b : ℕ) → b < 256 → get_or length_table b 0 ≡ announced b

-- what a length is read of: a character of a well-formed text
pub record CharBegins (s : List ℕ) (i : ℕ) : Type 0 where
  pub formed : well_formed s ≡ true
  pub begins : boundary s i ≡ true
  pub more : i < length s

-- r bytes from i on are a character of the text
pub record CharLen (s : List ℕ) (i r : ℕ) : Type 0 where
  pub long : r ≡ announced (get_or s i 0)
  pub inside : i + r ≤ length s
  pub ends : boundary s (i + r) ≡ true

-- how many bytes the character has that b begins in a well-formed text; 1 where b begins none
unfoldable pub lead_len : ℕ → ℕ
lead_len b = cond (ltb b 0xC0) 1 (cond (ltb b 0xE0) 2 (cond (ltb b 0xF0) 3 4))

-- CLAIM: a byte that begins a character announces just that
abbrev pub LeadLenRight : Type 0
LeadLenRight = (b : ℕ) → 0 < announced b → lead_len b ≡ announced b
