-- Fields one after the other: a field is its length, 4 bytes little-endian, then its bytes. Total: what is cut short
-- is as long as it is.
use Rattle.std.specs.Prelude.{ℕ, zero, suc, Bool, cond, ◌&&◌, List, leb, eqb, length, take, drop}
use Rattle.numbers.specs.LittleEndian.{value_of}

-- the number at the start; 0 where its bytes are not all there
unfoldable pub leading_number : List ℕ → ℕ
leading_number s = cond (leb 4 (length s)) (value_of (take 4 s)) 0

-- the first field, and the fields after it
unfoldable pub first : List ℕ → List ℕ
first s = take (leading_number s) (drop 4 s)

unfoldable pub after_field : List ℕ → List ℕ
after_field s = drop (leading_number s) (drop 4 s)

-- the field of an index; past the last an empty one
unfoldable pub field_of : ℕ → List ℕ → List ℕ
field_of zero s = first s
field_of (suc k) s = field_of k (after_field s)

-- whether a field is this number
unfoldable pub is_number : List ℕ → ℕ → Bool
is_number s n = eqb (length s) 4 && eqb (leading_number s) n
