-- What the functions are told and say: the bytes of code points laid down, 64 of them at once.
use Rattle.std.specs.Prelude.{ℕ, ◌+◌, ◌*◌, ◌/◌, ◌%◌, ◌≤◌, ◌<◌, ◌≡◌, true, cond, List, [], ◌∷◌, ◌++◌, ltb, length, get_or}
use Rattle.std.specs.Int.Bits.{bit_or}
use Rattle.buffers.specs.Over.{Over}
use Rattle.numbers.specs.LittleEndian.{little_endian}
use Rattle.code_point_blocks.specs.Codes.{text_of, all_scalar}

pub record TextLaid (codes out₀ : List ℕ) (from until r : ℕ) (out : List ℕ) : Type 0 where
  pub reached : r ≡ from + length (text_of codes)
  pub over : Over (text_of codes) out₀ from until out

-- 64 scalar values, and room for as many as four bytes of each
pub record CodesBlockRoom (codes out : List ℕ) (from until : ℕ) : Type 0 where
  pub many : length codes ≡ 64
  pub scalars : all_scalar codes ≡ true
  pub free : from + 256 ≤ until
  pub bounded : until ≤ length out

-- each of some numbers is below a bound
abbrev pub EachBelow : List ℕ → ℕ → Type 0
EachBelow codes n = (i : ℕ) → i < length codes → get_or codes i 0 < n

-- the bits of a number and of all the listed ones together
unfoldable pub or_all : ℕ → List ℕ → ℕ
or_all bits [] = bits
or_all bits (c ∷ cs) = or_all (bit_or bits c) cs

-- the bytes of a code point of at most three, the first one lowest, and in the highest byte how many they are
unfoldable pub packed_code : ℕ → ℕ
packed_code c =
    cond (ltb c 0x80) (0x1000000 + c % 128)
    (cond (ltb c 0x800) (0x20080C0 + c / 64 % 32 + c % 64 * 256)
    (0x38080E0 + c / 4096 % 16 + c / 64 % 64 * 256 + c % 64 * 0x10000))

-- the four bytes of a word
unfoldable pub word_bytes : ℕ → List ℕ
word_bytes w = little_endian 2 (w % 0x10000) ++ little_endian 2 (w / 0x10000)
