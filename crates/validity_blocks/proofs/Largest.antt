-- Laws of `largest`: at an index, byte by byte, and in parts.
use Rattle.std.proofs.Common.{◌≡◌, ℕ, zero, suc, ◌+◌, ◌<◌, ◌≤◌, max, List, [], ◌∷◌, length, get_or, take, drop, refl, add-one, arith, length-drop, drop_of_length-le, drop-cons}
use lib.Seq.{take-length}
use Rattle.buffers.specs.Splice.{part}
use Rattle.validity_blocks.specs.Extremes.{largest}

pub largest-at : (s : List ℕ) (i : ℕ) → get_or s i 0 ≤ largest s
unfolding largest
largest-at [] i = omega arith
largest-at (b ∷ s) zero = omega arith
largest-at (b ∷ s) (suc i) = omega (arith, largest-at s i)

-- m is the largest of the first i bytes
pub record LargestSoFar (s : List ℕ) (m i : ℕ) : Type 0 where
  pub most : i ≤ length s
  pub with_rest : max m (largest (drop i s)) ≡ largest s

pub largest-none : {s : List ℕ} → LargestSoFar s 0 0
largest-none = record { most = omega arith; with_rest = omega arith }

pub largest-more : {s : List ℕ} {m i r : ℕ} → LargestSoFar s m i → i < length s → r ≡ max m (get_or s i 0) → LargestSoFar s r (i + 1)
unfolding largest
largest-more {s} {i = i} k h new =
    let split = rw (drop-cons s i 0 h) at k.with_rest in
    record { most = omega arith; with_rest = rw add-one (omega arith) }

pub largest-done : {s : List ℕ} {m i : ℕ} → LargestSoFar s m i → length s ≤ i → m ≡ largest s
unfolding largest
largest-done {s} k past = let none = rw (drop_of_length-le s past) at k.with_rest in omega arith

-- a text in two parts
pub largest-parts : (n : ℕ) (s : List ℕ) → max (largest (take n s)) (largest (drop n s)) ≡ largest s
unfolding largest
largest-parts zero s = omega arith
largest-parts (suc n) [] = refl
largest-parts (suc n) (b ∷ s) = omega (arith, largest-parts n s)

pub parts-largest : (s : List ℕ) {a b m : ℕ} → a ≡ largest (take 3 s) → b ≡ largest (part s 3 (length s)) → m ≡ max a b → m ≡ largest s
parts-largest s front back both =
    let rest = rw (← length-drop 3 s, take-length (drop 3 s)) at back in
    omega (arith, largest-parts 3 s)
