-- What the inner functions are told and say: a well-formed text walked by its bytes.
use Rattle.std.specs.Prelude.{ℕ, zero, suc, ◌+◌, ◌-◌, ◌*◌, ◌≤◌, ◌<◌, ◌≡◌, Bool, true, cond, ◌&&◌, not, List, [], ◌∷◌, ◌++◌, leb, ltb, eqb, length, get_or, take, drop, replicate}
use Rattle.buffers.specs.Every.{every_below}
use Rattle.buffers.specs.Splice.{part, splice, Laid}
use Rattle.utf8.specs.Formed.{well_formed}
use Rattle.code_point_blocks.specs.Codes.{text_of}
use Rattle.map_columns.specs.declared.Reached.{Reached}
use Rattle.lowercase.specs.Images.{lower_image, dotted_i, images, lowercase_table}

-- a byte that begins a character from U+0080 to U+017F
unfoldable pub begins_latin : ℕ → Bool
begins_latin b = leb 0xC2 b && leb b 0xC5

-- the code point of two bytes
abbrev pub pair_code : ℕ → ℕ → ℕ
pair_code a b = (a - 0xC0) * 64 + (b - 0x80)

-- a byte that is looked up alone, or that stays
unfoldable pub lowered_byte : ℕ → ℕ
lowered_byte b = cond (ltb b 0x80) (lower_image b) b

-- it by comparison: A to Z are 32 further
unfoldable pub compared_byte : ℕ → ℕ
compared_byte b = b + cond (leb 0x41 b && leb b 0x5A) 32 0

-- CLAIM: this is the table below 80, and leaves every other byte.
abbrev pub ComparedAsTable : Type 0
ComparedAsTable = (b : ℕ) → compared_byte b ≡ lowered_byte b

-- each byte alone
unfoldable pub lowered_each : List ℕ → List ℕ
lowered_each [] = []
lowered_each (b ∷ s) = lowered_byte b ∷ lowered_each s

-- no byte begins a character from U+0080 to U+017F
unfoldable pub none_latin : List ℕ → Bool
none_latin s = every_below (length s) (λ i. not (begins_latin (get_or s i 0)))

-- what a byte gives, with the one after it where it begins a character of the table
unfoldable pub bytes_for : ℕ → ℕ → List ℕ
bytes_for a b = cond (begins_latin a) (text_of (images (pair_code a b))) (lowered_byte a ∷ [])

-- how many bytes are passed then
unfoldable pub passed_by : ℕ → ℕ
passed_by a = cond (begins_latin a) 2 1

-- what a text gives from a place on that is k bytes away
unfoldable pub lowered_from : ℕ → List ℕ → List ℕ
lowered_from k [] = []
lowered_from zero (b ∷ s) = bytes_for b (get_or s 0 0) ++ lowered_from (passed_by b - 1) s
lowered_from (suc k) (b ∷ s) = lowered_from k s

unfoldable pub lowered_bytes : List ℕ → List ℕ
lowered_bytes s = lowered_from 0 s

-- 1 where the two bytes are those of U+0130
unfoldable pub dotted_at : ℕ → ℕ → ℕ
dotted_at a b = cond (eqb a 0xC4 && eqb b 0xB0) 1 0

-- how often they are, one in each of two lists at the same place
unfoldable pub dotted_sum : List ℕ → List ℕ → ℕ
dotted_sum [] ys = 0
dotted_sum (x ∷ xs) [] = 0
dotted_sum (x ∷ xs) (y ∷ ys) = dotted_at x y + dotted_sum xs ys

-- how often they are in a text that comes after a byte
unfoldable pub dotted_after : ℕ → List ℕ → ℕ
dotted_after before [] = 0
dotted_after before (b ∷ s) = dotted_at before b + dotted_after b s

abbrev pub dotted_pairs : List ℕ → ℕ
dotted_pairs s = dotted_after 0 s

-- a column in which the second byte of U+0130 has its value twice
unfoldable pub grown_after : ℕ → List ℕ → List ℕ → List ℕ
grown_after before [] xs = []
grown_after before (b ∷ s) [] = []
grown_after before (b ∷ s) (x ∷ xs) = replicate (1 + dotted_at before b) x ++ grown_after b s xs

abbrev pub grown : List ℕ → List ℕ → List ℕ
grown s xs = grown_after 0 s xs

-- the places of the bytes that begin a character from U+0080 to U+017F; the first byte's place is k
unfoldable pub latin_places : ℕ → List ℕ → List ℕ
latin_places k [] = []
latin_places k (b ∷ s) = cond (begins_latin b) (k ∷ latin_places (suc k) s) (latin_places (suc k) s)

-- they are in front of a buffer; what it has after them is left to the program (DECISIONS 94)
pub record PlacesFound (block places₀ : List ℕ) (r : ℕ) (places : List ℕ) : Type 0 where
  pub counted : r ≡ length (latin_places 0 block)
  pub front : take r places ≡ latin_places 0 block
  pub same : length places ≡ length places₀

-- what the character of two bytes at j gives
abbrev pub given_at : List ℕ → ℕ → List ℕ
given_at s j = text_of (images (pair_code (get_or s j 0) (get_or s (j + 1) 0)))

-- what is laid once more where that is longer than two bytes: those after it up to `to`, each alone
unfoldable pub laid_again : List ℕ → ℕ → ℕ → List ℕ
laid_again s j to = cond (eqb (pair_code (get_or s j 0) (get_or s (j + 1) 0)) dotted_i) (lowered_each (part s (j + 2) to)) []

-- a character of the table at j of a well-formed text, and room for all that
pub record LatinRoom (s : List ℕ) (j to : ℕ) (table out : List ℕ) (at : ℕ) : Type 0 where
  pub formed : well_formed s ≡ true
  pub more : j < length s
  pub latin : begins_latin (get_or s j 0) ≡ true
  pub to_inside : to ≤ length s
  pub tabled : table ≡ lowercase_table
  pub room : at + length (given_at s j ++ laid_again s j to) ≤ length out

pub record LatinLaid (s : List ℕ) (j to : ℕ) (out₀ : List ℕ) (at end : ℕ) (out : List ℕ) : Type 0 where
  pub reach : end ≡ at + length (given_at s j)
  pub holds : out ≡ splice out₀ at (given_at s j ++ laid_again s j to)

-- a text from i on, and room for what it gives
pub record LowerRoom (s : List ℕ) (i : ℕ) (table out : List ℕ) (at : ℕ) : Type 0 where
  pub formed : well_formed s ≡ true
  pub inside : i ≤ length s
  pub tabled : table ≡ lowercase_table
  pub room : at + length (lowered_bytes (drop i s)) ≤ length out

-- what the bytes from `from` on give is laid, up to a byte at or after `to` that another step begins with; which one is
-- left to the program (DECISIONS 94)
pub record WalkLaid (s : List ℕ) (from to : ℕ) (out₀ : List ℕ) (at : ℕ) (r : Reached) (out : List ℕ) : Type 0 where
  pub given : List ℕ
  pub cut : lowered_bytes (drop from s) ≡ given ++ lowered_bytes (drop r.position s)
  pub laid : Laid given out₀ at r.written out
  pub onward : to ≤ r.position
  pub inside : r.position ≤ length s

-- a column of a text, the size that the text will have, and room for so much
pub record ColumnRoom (s xs : List ℕ) (size : ℕ) (out : List ℕ) : Type 0 where
  pub one_each : length xs ≡ length s
  pub counted : size ≡ length s + dotted_pairs s
  pub room : size ≤ length out
