-- A number as bytes, the least significant first, in any width (Rust: `to_le_bytes`, `from_le_bytes`).
use Rattle.std.specs.Prelude.{ℕ, zero, suc, ◌+◌, ◌*◌, ◌/◌, ◌%◌, ◌^◌, ◌<◌, ◌≡◌, List, [], ◌∷◌, length, get_or}

-- the last `width` bytes of a number
unfoldable pub little_endian : ℕ → ℕ → List ℕ
little_endian zero n = []
little_endian (suc width) n = (n % 256) ∷ little_endian width (n / 256)

-- the number that bytes stand for
unfoldable pub value_of : List ℕ → ℕ
value_of [] = 0
value_of (b ∷ bs) = b + value_of bs * 256

-- CLAIM: a number that fits in the width is read back
abbrev pub NumberReadBack : Type 0
NumberReadBack = (width n : ℕ) → n < 256 ^ width → value_of (little_endian width n) ≡ n

-- CLAIM: bytes are written back as they were
abbrev pub BytesWrittenBack : Type 0
BytesWrittenBack = (bs : List ℕ) → ((i : ℕ) → i < length bs → get_or bs i 0 < 256)
    → little_endian (length bs) (value_of bs) ≡ bs
