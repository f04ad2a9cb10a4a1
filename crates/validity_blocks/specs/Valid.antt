-- The fast form of well-formedness: a byte is judged by itself and the three before it, so many are judged at once.
use Rattle.std.specs.Prelude.{ℕ, ◌+◌, ◌<◌, Bool, not, ◌&&◌, ◌||◌, List, length, drop, nat_le, nat_lt, slice_index}
use Rattle.std.specs.Bool.{xor}
use Rattle.buffers.specs.Every.{every_below}
use Rattle.utf8.specs.Formed.{second}
use Rattle.utf8.specs.Table.{within}

-- a character is not at its end after b3, b2, b1
unfoldable pub pending : ℕ → ℕ → ℕ → Bool
pending b3 b2 b1 = nat_le 0xC0 b1 || nat_le 0xE0 b2 || nat_le 0xF0 b3

-- a byte that is in no row of Table 3-7: C0, C1, F5..FF
unfoldable pub never : ℕ → Bool
never b0 = (nat_le 0xC0 b0 && nat_lt b0 0xC2) || nat_le 0xF5 b0

-- b0 cannot stand after b3, b2, b1: it continues a character where none is pending, or none where one is
unfoldable pub invalid : ℕ → ℕ → ℕ → ℕ → Bool
invalid b3 b2 b1 b0 = xor (pending b3 b2 b1) (within (second b1) b0) || never b0

-- the fourth byte of s can stand after the first three; bytes past the end are 0
unfoldable pub valid : List ℕ → Bool
valid s = not (invalid (slice_index s 0) (slice_index s 1) (slice_index s 2) (slice_index s 3))

-- each of the n bytes after the first three of s can stand where it does
unfoldable pub valid_first : List ℕ → ℕ → Bool
valid_first s n = every_below n (λ i. valid (drop i s))

-- P holds of each byte of s but the first three, and of the three before it
abbrev pub AtEach : (ℕ → ℕ → ℕ → ℕ → Type 0) → List ℕ → Type 0
AtEach P s =
    (j : ℕ) → j + 3 < length s
    → P (slice_index s j) (slice_index s (j + 1)) (slice_index s (j + 2)) (slice_index s (j + 3))
