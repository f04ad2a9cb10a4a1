-- Laws of `len_utf8`: how many bytes a character has, by ranges.
use Prim.Native.Nat.{ℕ, ◌+◌, ◌≤◌, ◌<◌}
use mathlib.Core.Path.{◌≡◌, refl}
use mathlib.Core.Bool.{Bool, true, false, ◌&&◌}
use native.Mathlib.Omega.{arith}
use mir.Val.{bool_byte}
use lib.Dec.{leb}
use borrow.Author.Tests.{le-leb, lt-leb}
use Rattle.buffers.proofs.Cases.{le-or-lt, true-or-false}
use Rattle.buffers.proofs.Booleans.{and_false_r}
use Rattle.utf8.specs.Formed.{well_formed, formed}
use Rattle.utf8.specs.Scalar.{scalar, bytes_of, len_utf8}
use Rattle.utf8.proofs.Scalar.{bytes_of-scalar, bytes_of-other, encoded-one, encoded-two, encoded-three, encoded-four, encoded-formed, length-encoded}

-- a character's bytes
pub size-scalar : (c : ℕ) → scalar c ≡ true → (1 ≤ len_utf8 c) × (len_utf8 c ≤ 4)
unfolding len_utf8
size-scalar c s = rw (bytes_of-scalar c s) (length-encoded c)

pub size_most : (c : ℕ) → len_utf8 c ≤ 4
unfolding len_utf8
size_most c = true-or-false (scalar c) (λ s. rw (bytes_of-scalar c s) (length-encoded c).1) (λ o. rw (bytes_of-other c o) (omega arith))

pub size_none : (c : ℕ) → len_utf8 c ≡ 0 → scalar c ≡ false
size_none c z = true-or-false (scalar c) (λ s. absurd (omega (arith, (size-scalar c s).0))) (λ o. o)

pub size-some : (c : ℕ) → (len_utf8 c ≡ 0 → ⊥) → scalar c ≡ true
unfolding len_utf8
size-some c h = true-or-false (scalar c) (λ s. s) (λ o. absurd (h (rw (bytes_of-other c o))))

pub bytes-formed : (c : ℕ) → well_formed (bytes_of c) ≡ true
unfolding formed
bytes-formed c = true-or-false (scalar c) (λ s. rw (bytes_of-scalar c s) (encoded-formed c s)) (λ o. rw (bytes_of-other c o))

-- how many they are, by ranges
pub bool-most : (b : Bool) → bool_byte b ≤ 1
bool-most true = omega arith
bool-most false = omega arith

module _ (c : ℕ) where
  pub size-beyond : 0x10FFFF < c → 0 ≡ len_utf8 c
  unfolding len_utf8 bytes_of scalar
  size-beyond h = rw (lt-leb c 0x10FFFF h)

  pub size-surrogate : (leb 0xD800 c && leb c 0xDFFF) ≡ true → 0 ≡ len_utf8 c
  unfolding len_utf8 bytes_of scalar
  size-surrogate e = rw (e, and_false_r (leb c 0x10FFFF) false refl)

  pub size-ranges : c ≤ 0x10FFFF → (leb 0xD800 c && leb c 0xDFFF) ≡ false → 1 + bool_byte (leb 0x80 c) + bool_byte (leb 0x800 c) + bool_byte (leb 0x10000 c) ≡ len_utf8 c
  unfolding len_utf8 bytes_of scalar
  size-ranges h e =
      le-or-lt 0x80 c
      (λ one.
      le-or-lt 0x800 c
      (λ two.
      le-or-lt 0x10000 c
      (λ three. rw (le-leb _ _ h, e, le-leb _ _ one, le-leb _ _ two, le-leb _ _ three, encoded-four c three))
      (λ less. rw (le-leb _ _ h, e, le-leb _ _ one, le-leb _ _ two, lt-leb _ _ less, encoded-three c two less)))
      (λ less. let far : leb 0x10000 c ≡ false = lt-leb 0x10000 c (omega arith) in rw (le-leb _ _ h, e, le-leb _ _ one, lt-leb _ _ less, far, encoded-two c one less)))
      (λ less.
      let near : leb 0x800 c ≡ false = lt-leb 0x800 c (omega arith) in
      let far : leb 0x10000 c ≡ false = lt-leb 0x10000 c (omega arith) in
      rw (le-leb _ _ h, e, lt-leb _ _ less, near, far, encoded-one c less))
