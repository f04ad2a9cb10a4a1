-- A column by the differences of its elements, modulo its width.
use Rattle.std.specs.Prelude.{ℕ, zero, suc, ◌+◌, ◌/◌, ◌%◌, ◌^◌, min, List, [], ◌∷◌, length, drop}
use Rattle.stored_answers.specs.Framing.{leading_number}

-- n elements after `last`
unfoldable pub summed : ℕ → ℕ → ℕ → List ℕ → List ℕ
summed width zero last s = []
summed width (suc n) last s =
    ((last + leading_number s) % width) ∷ summed width n ((last + leading_number s) % width) (drop 4 s)

-- as many as the field has, in `room` elements
unfoldable pub number_column : ℕ → ℕ → List ℕ → List ℕ
number_column width room s = summed width (min (length s / 4) room) 0 s

-- a column of offsets: an element is a number up to the limit, and there are at most one more than the limit
abbrev pub offset_column : ℕ → List ℕ → List ℕ
offset_column most s = number_column (most + 1) (most + 1) s

-- a list of numbers of four bytes, 256 at most
abbrev pub numbers_of : List ℕ → List ℕ
numbers_of s = number_column (256 ^ 4) 256 s
