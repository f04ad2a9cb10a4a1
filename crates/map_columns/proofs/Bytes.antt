-- The bytes of a scalar value: the first begins a character, the others continue it.
use Prim.Native.Nat.{ℕ, zero, suc, ◌+◌, ◌/◌, ◌≤◌, ◌<◌}
use mathlib.Core.Path.{◌≡◌, ◌∙◌, refl}
use mathlib.Core.Bool.{true, false}
use mathlib.Core.List.{List, [], ◌∷◌}
use native.Mathlib.Omega.{arith}
use lib.Dec.{leb}
use lib.ListN.{length, get_or}
use borrow.Author.Tests.{le-leb, lt-leb}
use Rattle.buffers.proofs.Booleans.{and_false_r}
use Rattle.buffers.proofs.Cases.{le-or-lt}
use Rattle.utf8.specs.Table.{within}
use Rattle.utf8.specs.Formed.{continues}
use Rattle.utf8.specs.Scalar.{scalar, six_bits, bytes_of}
use Rattle.utf8.proofs.Scalar.{bytes_of-scalar, encoded-one, encoded-two, encoded-three, encoded-four}

pub record Character (bs : List ℕ) : Type 0 where
  pub some : 0 < length bs
  pub begins : continues (get_or bs 0 0) ≡ false
  pub goes_on : (i : ℕ) → suc i < length bs → continues (get_or bs (suc i) 0) ≡ true

below : (b : ℕ) → b < 0x80 → continues b ≡ false
unfolding continues within
below b h = rw (lt-leb 0x80 b h)

above : (b : ℕ) → 0xC0 ≤ b → continues b ≡ false
unfolding continues within
above b h = rw (lt-leb b 0xBF (omega arith)) (and_false_r (leb 0x80 b) false refl)

six : (x : ℕ) → continues (six_bits x) ≡ true
unfolding continues within
six x = rw (le-leb 0x80 (six_bits x) (omega arith), le-leb (six_bits x) 0xBF (omega arith))

module _ (c : ℕ) (ok : scalar c ≡ true) where
  one : c < 0x80 → Character (bytes_of c)
  one h =
      rw (bytes_of-scalar c ok ∙ encoded-one c h)
      (record { some = omega arith; begins = below c h; goes_on = λ i k. absurd (omega arith) })

  two : 0x80 ≤ c → c < 0x800 → Character (bytes_of c)
  two l h =
      rw (bytes_of-scalar c ok ∙ encoded-two c l h)
      (record { some = omega arith; begins = above (0xC0 + c / 64) (omega arith); goes_on = rest })
    where
      rest : (i : ℕ) → suc i < 2 → continues (get_or ((0xC0 + c / 64) ∷ six_bits c ∷ []) (suc i) 0) ≡ true
      rest zero k = six c
      rest (suc i) k = absurd (omega arith)

  three : 0x800 ≤ c → c < 0x10000 → Character (bytes_of c)
  three l h =
      rw (bytes_of-scalar c ok ∙ encoded-three c l h)
      (record { some = omega arith; begins = above (0xE0 + c / 4096) (omega arith); goes_on = rest })
    where
      rest : (i : ℕ) → suc i < 3 → continues (get_or ((0xE0 + c / 4096) ∷ six_bits (c / 64) ∷ six_bits c ∷ []) (suc i) 0) ≡ true
      rest zero k = six (c / 64)
      rest (suc zero) k = six c
      rest (suc (suc i)) k = absurd (omega arith)

  four : 0x10000 ≤ c → Character (bytes_of c)
  four l =
      rw (bytes_of-scalar c ok ∙ encoded-four c l)
      (record { some = omega arith; begins = above (0xF0 + c / 262144) (omega arith); goes_on = rest })
    where
      rest : (i : ℕ) → suc i < 4 → continues (get_or ((0xF0 + c / 262144) ∷ six_bits (c / 4096) ∷ six_bits (c / 64) ∷ six_bits c ∷ []) (suc i) 0) ≡ true
      rest zero k = six (c / 4096)
      rest (suc zero) k = six (c / 64)
      rest (suc (suc zero)) k = six c
      rest (suc (suc (suc i))) k = absurd (omega arith)

  pub character : Character (bytes_of c)
  character =
      le-or-lt 0x80 c
      (λ l. le-or-lt 0x800 c (λ m. le-or-lt 0x10000 c (λ n. four n) (λ h. three m h)) (λ h. two l h))
      (λ h. one h)
