-- Laws of `littleEndian` and `value_of`: each undoes the other; lengths, bytes, and the numbers of two and of four bytes.
use Prim.Native.Nat.{ℕ, zero, suc, ◌+◌, ◌*◌, ◌-◌, ◌/◌, ◌%◌, ◌^◌, ◌≤◌, ◌<◌}
use mathlib.Core.Path.{◌≡◌, ap, refl}
use mathlib.Core.List.{List, [], ◌∷◌}
use native.Mathlib.Nat.{pow-suc}
use native.Mathlib.Numerals.{add-one}
use native.Mathlib.Omega.{arith}
use lib.ListN.{length, get_or, drop_of_length-le, get_or-eq_default}
use lib.Seq.{take-nil, drop-cons}
use Rattle.std.specs.Int.{w16, w32, from_le_bytes, to_le_bytes}
use Rattle.buffers.specs.Splice.{part}
use Rattle.buffers.proofs.Cases.{le-or-lt}
use Rattle.numbers.specs.LittleEndian.{little_endian, value_of, NumberReadBack, BytesWrittenBack}

pub number-read-back : NumberReadBack
unfolding little_endian value_of
number-read-back zero n h = omega arith
number-read-back (suc width) n h =
    let fits : n < 256 ^ width * 256 = rw pow-suc at h in
    let rest = number-read-back width (n / 256) (omega arith) in
    omega arith

pub bytes-written-back : BytesWrittenBack
unfolding little_endian value_of
bytes-written-back [] h = refl
bytes-written-back (b ∷ bs) h =
    let low : b < 256 = h 0 (omega arith) in
    let first : (b + value_of bs * 256) % 256 ≡ b = omega arith in
    let others : (b + value_of bs * 256) / 256 ≡ value_of bs = omega arith in
    rw (first, others, bytes-written-back bs (λ i k. h (suc i) (omega arith)))

pub length-little_endian : (width n : ℕ) → length (little_endian width n) ≡ width
unfolding little_endian
length-little_endian zero n = refl
length-little_endian (suc width) n = ap suc (length-little_endian width (n / 256))

-- the number that is in a list, by its first byte, also where the list ends before; the one of two bytes, and the
-- one of four, by its halves
pub value-part : (width : ℕ) (bs : List ℕ) (at : ℕ) → value_of (part bs at (at + suc width)) ≡ get_or bs at 0 + value_of (part bs (at + 1) (at + 1 + width)) * 256
unfolding value_of
value-part width bs at =
    let all : at + suc width - at ≡ suc width = omega arith in
    let others : at + 1 + width - (at + 1) ≡ width = omega arith in
    rw (all, others)
    (le-or-lt (length bs) at
    (λ past.
    let later : length bs ≤ at + 1 = omega arith in
    rw (drop_of_length-le bs past, drop_of_length-le bs later, get_or-eq_default bs 0 past, take-nil {A = ℕ} width))
    (λ inside. rw (add-one at, drop-cons bs at 0 inside)))

pub value-at : (bs : List ℕ) (at : ℕ) → get_or bs at 0 + get_or bs (at + 1) 0 * 256 ≡ value_of (part bs at (at + 2))
unfolding value_of
value-at bs at =
    let none : at + 1 + 1 + 0 - (at + 1 + 1) ≡ 0 = omega arith in
    omega (arith, value-part 1 bs at, rw none at (value-part 0 bs (at + 1)))

-- as std says it: the number of two bytes, and of four, and the two bytes of a number
pub value-two : (bs : List ℕ) → length bs ≡ 2 → from_le_bytes w16 bs ≡ value_of bs
unfolding value_of
value-two [] h = absurd (omega arith)
value-two (a ∷ []) h = absurd (omega arith)
value-two (a ∷ b ∷ []) h = omega arith
value-two (a ∷ b ∷ c ∷ bs) h = absurd (omega arith)

pub value-four : (bs : List ℕ) → length bs ≡ 4 → from_le_bytes w32 bs ≡ value_of bs
unfolding value_of
value-four [] h = absurd (omega arith)
value-four (a ∷ []) h = absurd (omega arith)
value-four (a ∷ b ∷ []) h = absurd (omega arith)
value-four (a ∷ b ∷ c ∷ []) h = absurd (omega arith)
value-four (a ∷ b ∷ c ∷ d ∷ []) h = omega arith
value-four (a ∷ b ∷ c ∷ d ∷ e ∷ bs) h = absurd (omega arith)

pub bytes-two : (n : ℕ) → to_le_bytes w16 n ≡ little_endian 2 n
unfolding little_endian
bytes-two n = refl
