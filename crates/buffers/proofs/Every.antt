-- Laws of `everyBelow`: what it says at an index, how it grows, how it is cut in two.
use Prim.Native.Nat.{ℕ, zero, suc, ◌+◌, ◌<◌}
use mathlib.Core.Path.{◌≡◌, refl, sym}
use mathlib.Core.Bool.{Bool, true, false, ◌&&◌, and-true, and_assoc}
use mathlib.Mathlib.Data.Bool.Basic.{and_intro, and_elim_left, and_elim_right}
use native.Mathlib.Numerals.{add-one}
use native.Mathlib.Nat.{add-zero, add-suc}
use native.Mathlib.Omega.{arith}
use Rattle.buffers.specs.Every.{every_below}
use Rattle.buffers.proofs.Cases.{le-or-lt}
use Rattle.buffers.proofs.Booleans.{and-false-l, and_false_r}

-- one more index
pub every-suc : (n : ℕ) (f : ℕ → Bool) → every_below (n + 1) f ≡ (every_below n f && f n)
unfolding every_below
every-suc n f = rw add-one refl

-- the first index apart
pub every-cons : (n : ℕ) (f : ℕ → Bool) → every_below (suc n) f ≡ (f 0 && every_below n (λ i. f (suc i)))
unfolding every_below
every-cons zero f = sym (and-true (f 0))
every-cons (suc n) f = rw (every-cons n f) (and_assoc (f 0) (every_below n (λ i. f (suc i))) (f (suc n)))

-- two stretches
pub every-add : (m n : ℕ) (f : ℕ → Bool) → every_below (m + n) f ≡ (every_below m f && every_below n (λ i. f (m + i)))
unfolding every_below
every-add m zero f = rw add-zero (sym (and-true (every_below m f)))
every-add m (suc n) f = rw (add-suc m n, every-add m n f) (and_assoc (every_below m f) (every_below n (λ i. f (m + i))) (f (m + n)))

pub every-at : (n : ℕ) (f : ℕ → Bool) → every_below n f ≡ true → (i : ℕ) → i < n → f i ≡ true
unfolding every_below
every-at zero f e i h = absurd (omega arith)
every-at (suc n) f e i h =
    le-or-lt n i
    (λ top. let last : i ≡ n = omega arith in rw last (and_elim_right (every_below n f) (f n) e))
    (λ below. every-at n f (and_elim_left (every_below n f) (f n) e) i below)

pub every-all : (n : ℕ) (f : ℕ → Bool) → ((i : ℕ) → i < n → f i ≡ true) → every_below n f ≡ true
unfolding every_below
every-all zero f h = refl
every-all (suc n) f h = and_intro (every-all n f (λ i k. h i (omega arith))) (h n (omega arith))

pub every-not : (n : ℕ) (f : ℕ → Bool) (i : ℕ) → i < n → f i ≡ false → every_below n f ≡ false
unfolding every_below
every-not zero f i h e = absurd (omega arith)
every-not (suc n) f i h e =
    le-or-lt n i
    (λ top. let last : i ≡ n = omega arith in and_false_r (every_below n f) (f n) (rw last at e))
    (λ below. and-false-l (every_below n f) (f n) (every-not n f i below e))

-- only the indices below the bound count
pub every-ext : (n : ℕ) (f g : ℕ → Bool) → ((i : ℕ) → i < n → f i ≡ g i) → every_below n f ≡ every_below n g
unfolding every_below
every-ext zero f g h = refl
every-ext (suc n) f g h = rw (every-ext n f g (λ i k. h i (omega arith)), h n (omega arith))
