-- A scalar value and its bytes (the Unicode Standard, D76 and Table 3-6).
use Rattle.std.specs.Prelude.{ℕ, ◌+◌, ◌/◌, ◌%◌, ◌≡◌, Bool, true, cond, ◌&&◌, not, List, [], ◌∷◌, length, leb, ltb}
use Rattle.utf8.specs.Table.{rows, of_some}

-- up to U+10FFFF, surrogates excepted
unfoldable pub scalar : ℕ → Bool
scalar c = leb c 0x10FFFF && not (leb 0xD800 c && leb c 0xDFFF)

-- six bits of c in a byte that continues a character
abbrev pub six_bits : ℕ → ℕ
six_bits c = 0x80 + c % 64

unfoldable pub encoded : ℕ → List ℕ
encoded c =
    cond (ltb c 0x80) (c ∷ [])
    (cond (ltb c 0x800) ((0xC0 + c / 64) ∷ six_bits c ∷ [])
    (cond (ltb c 0x10000) ((0xE0 + c / 4096) ∷ six_bits (c / 64) ∷ six_bits c ∷ [])
    ((0xF0 + c / 262144) ∷ six_bits (c / 4096) ∷ six_bits (c / 64) ∷ six_bits c ∷ [])))

-- the bytes of a scalar value, and none of any other number
unfoldable pub bytes_of : ℕ → List ℕ
bytes_of c = cond (scalar c) (encoded c) []

-- how many bytes a character has (Rust: `char::len_utf8`)
unfoldable pub len_utf8 : ℕ → ℕ
len_utf8 c = length (bytes_of c)

-- CLAIM: the bytes of a scalar value are one sequence of Table 3-7
abbrev pub ScalarSequence : Type 0
ScalarSequence = (c : ℕ) → scalar c ≡ true → of_some rows (bytes_of c) ≡ true

-- CLAIM: two scalar values with the same bytes are the same
abbrev pub ScalarDistinct : Type 0
ScalarDistinct = (c d : ℕ) → scalar c ≡ true → scalar d ≡ true → bytes_of c ≡ bytes_of d → c ≡ d
