-- Laws of `packedCode`, and of the bits that numbers have together.
use Prim.Native.Nat.{ℕ, zero, suc, ◌+◌, ◌*◌, ◌/◌, ◌%◌, ◌≤◌, ◌<◌}
use mathlib.Core.Path.{◌≡◌, ◌∙◌, refl, sym}
use mathlib.Core.Bool.{true, cond}
use mathlib.Core.List.{List, [], ◌∷◌}
use native.Mathlib.Numerals.{add-one}
use native.Mathlib.Omega.{arith}
use lib.Bits.{bit_or, or_add_and, and_le_l, and_le_r}
use lib.Dec.{ltb}
use lib.ListN.{length, get_or, take, drop, drop_of_length-le}
use lib.Seq.{drop-cons}
use borrow.Author.Tests.{lt-ltb, le-ltb}
use Rattle.buffers.specs.Splice.{splice}
use Rattle.buffers.specs.Over.{Over}
use Rattle.buffers.proofs.Cases.{le-or-lt}
use Rattle.buffers.proofs.Splice.{splice-splice}
use Rattle.buffers.proofs.Over.{over-exact, over-front}
use Rattle.numbers.specs.LittleEndian.{little_endian}
use Rattle.numbers.proofs.LittleEndian.{length-little_endian}
use Rattle.utf8.specs.Scalar.{scalar, six_bits, bytes_of}
use Rattle.utf8.proofs.Scalar.{bytes_of-scalar, encoded-one, encoded-two, encoded-three}
use Rattle.code_point_blocks.specs.Laying.{or_all, packed_code, word_bytes}

or-cons : (bits c : ℕ) (cs : List ℕ) → or_all bits (c ∷ cs) ≡ or_all (bit_or bits c) cs
unfolding or_all
or-cons bits c cs = refl

or_nil : (bits : ℕ) → or_all bits [] ≡ bits
unfolding or_all
or_nil bits = refl

-- the bits of those before i
pub record Gathered (codes : List ℕ) (bits i : ℕ) : Type 0 where
  pub so_far : or_all bits (drop i codes) ≡ or_all 0 codes
  pub inside : i ≤ length codes

pub one-gathered : {codes : List ℕ} {bits i : ℕ} → Gathered codes bits i → i < length codes → Gathered codes (bit_or bits (get_or codes i 0)) (i + 1)
one-gathered {codes} {bits} {i} g h =
    record { so_far = rw (add-one i, ← or-cons bits (get_or codes i 0) (drop (suc i) codes), ← drop-cons codes i 0 h) g.so_far; inside = omega arith }

pub all-gathered : {codes : List ℕ} {bits i : ℕ} → Gathered codes bits i → length codes ≤ i → bits ≡ or_all 0 codes
all-gathered {codes} {bits} g past = sym (or_nil bits) ∙ rw (drop_of_length-le codes past) at g.so_far

-- none of them is more than all have together
or_most : (bits : ℕ) (codes : List ℕ) → bits ≤ or_all bits codes
unfolding or_all
or_most bits [] = omega arith
or_most bits (c ∷ cs) = omega (arith, or_most (bit_or bits c) cs, or_add_and bits c, and_le_r bits c)

pub or-each : (bits : ℕ) (codes : List ℕ) (i : ℕ) → i < length codes → get_or codes i 0 ≤ or_all bits codes
unfolding or_all
or-each bits [] i h = absurd (omega arith)
or-each bits (c ∷ cs) zero h = omega (arith, or_most (bit_or bits c) cs, or_add_and bits c, and_le_l bits c)
or-each bits (c ∷ cs) (suc i) h = or-each (bit_or bits c) cs i (omega arith)

pub packed-picked : (c : ℕ) {x y : ℕ} → x ≡ cond (ltb c 0x800) (0x20080C0 + c / 64 % 32 + c % 64 * 256) (0x38080E0 + c / 4096 % 16 + c / 64 % 64 * 256 + c % 64 * 65536) → y ≡ cond (ltb c 0x80) (0x1000000 + c % 128) x → y ≡ packed_code c
unfolding packed_code
packed-picked c inner outer = outer ∙ rw inner

-- a word has the bytes of its code point in front, and how many they are on top
pub record Packing (c : ℕ) : Type 0 where
  pub wide : packed_code c / 16777216 ≡ length (bytes_of c)
  pub few : length (bytes_of c) ≤ 4
  pub bytes : take (length (bytes_of c)) (word_bytes (packed_code c)) ≡ bytes_of c

module _ (a b c d : ℕ) (ha : a < 256) (hb : b < 256) (hc : c < 256) (hd : d < 256) where
  abbrev word : ℕ
  word = a + b * 256 + c * 65536 + d * 16777216

  low : word % 65536 ≡ a + b * 256
  low = omega arith

  high : word / 65536 ≡ c + d * 256
  high = omega arith

  word-top : word / 16777216 ≡ d
  word-top = omega arith

  word-bytes : word_bytes word ≡ (a ∷ b ∷ c ∷ d ∷ [])
  unfolding word_bytes little_endian
  word-bytes =
      rw (low, high)
      (let w : (a + b * 256) % 256 ≡ a = omega arith in
      let bs : (a + b * 256) / 256 ≡ b = omega arith in
      let x : (a + b * 256) / 256 % 256 ≡ b = rw bs (omega arith) in
      let y : (c + d * 256) % 256 ≡ c = omega arith in
      let ds : (c + d * 256) / 256 ≡ d = omega arith in
      let z : (c + d * 256) / 256 % 256 ≡ d = rw ds (omega arith) in
      λ i. w i ∷ x i ∷ y i ∷ z i ∷ [])

  packing-of : (n : ℕ) → packed_code n ≡ word → d ≡ length (bytes_of n) → d ≤ 4 → take (length (bytes_of n)) (a ∷ b ∷ c ∷ d ∷ []) ≡ bytes_of n → Packing n
  packing-of n is wide few front =
      record { wide = rw is word-top ∙ wide; few = omega (arith, wide); bytes = rw (is, word-bytes) front }

module _ (c : ℕ) (ok : scalar c ≡ true) where
  packing-one : c < 0x80 → Packing c
  unfolding packed_code
  packing-one one =
      let b : bytes_of c ≡ (c ∷ []) = bytes_of-scalar c ok ∙ encoded-one c one in
      packing-of c 0 0 1 (omega arith) (omega arith) (omega arith) (omega arith) c (rw (lt-ltb c 0x80 one) (omega arith)) (rw b) (omega arith) (rw b)

  packing-two : 0x80 ≤ c → c < 0x800 → Packing c
  unfolding packed_code
  packing-two more some =
      let b : bytes_of c ≡ ((0xC0 + c / 64) ∷ six_bits c ∷ []) = bytes_of-scalar c ok ∙ encoded-two c more some in
      packing-of (0xC0 + c / 64) (0x80 + c % 64) 0 2 (omega arith) (omega arith) (omega arith) (omega arith) c (rw (le-ltb c 0x80 more, lt-ltb c 0x800 some) (omega arith)) (rw b) (omega arith) (rw b)

  packing-three : 0x800 ≤ c → c < 0x10000 → Packing c
  unfolding packed_code
  packing-three most below =
      let b : bytes_of c ≡ ((0xE0 + c / 4096) ∷ six_bits (c / 64) ∷ six_bits c ∷ []) = bytes_of-scalar c ok ∙ encoded-three c most below in
      packing-of (0xE0 + c / 4096) (0x80 + c / 64 % 64) (0x80 + c % 64) 3 (omega arith) (omega arith) (omega arith) (omega arith) c (rw (le-ltb c 0x80 (omega arith), le-ltb c 0x800 most) (omega arith)) (rw b) (omega arith) (rw b)

  pub packing : c < 0x10000 → Packing c
  packing below = le-or-lt 0x80 c (λ more. le-or-lt 0x800 c (λ most. packing-three most below) (λ some. packing-two more some)) (λ one. packing-one one)

pub length-word : (w : ℕ) → length (word_bytes w) ≡ 4
unfolding word_bytes little_endian
length-word w = refl

pub word-stored : (d : List ℕ) (at w : ℕ) {d₁ d₂ : List ℕ} → at + 4 ≤ length d → d₁ ≡ splice d at (little_endian 2 (w % 65536)) → d₂ ≡ splice d₁ (at + 2) (little_endian 2 (w / 65536)) → d₂ ≡ splice d at (word_bytes w)
unfolding word_bytes
word-stored d at w room first second =
    second ∙ rw first (rw (length-little_endian 2 (w % 65536)) at (splice-splice d (little_endian 2 (w % 65536)) (little_endian 2 (w / 65536)) at (omega arith)))

-- of its four bytes the code point's are meant
pub word-laid : {c : ℕ} {d d₁ : List ℕ} {at until w : ℕ} → Packing c → w ≡ packed_code c → at + 4 ≤ until → until ≤ length d → d₁ ≡ splice d at (word_bytes w) → Over (bytes_of c) d at until d₁
word-laid {c} {d} {at = at} {until} {w} p is below room stored =
    rw p.bytes at
    (over-front (length (bytes_of c)) (over-exact (word_bytes (packed_code c)) d at until (omega (arith, length-word (packed_code c))) (rw is at stored))
    (omega (arith, length-word (packed_code c), p.few)) (omega arith) (omega (arith, length-word (packed_code c))))
