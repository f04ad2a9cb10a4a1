-- Laws of `leastLead`: at an index, byte by byte, and in parts.
use Rattle.std.proofs.Common.{◌≡◌, ℕ, zero, suc, ◌+◌, ◌<◌, ◌≤◌, min, List, [], ◌∷◌, length, get_or, take, drop, refl, add-one, arith, length-drop, drop_of_length-le, drop-cons}
use lib.Seq.{take-length}
use Rattle.buffers.specs.Splice.{part}
use Rattle.validity_blocks.specs.Extremes.{from_lead, least_lead}

pub least_at : (s : List ℕ) (i : ℕ) → least_lead s ≤ from_lead (get_or s i 0)
unfolding least_lead from_lead
least_at [] i = omega arith
least_at (b ∷ s) zero = omega arith
least_at (b ∷ s) (suc i) = omega (arith, least_at s i)

least-most : (s : List ℕ) → least_lead s ≤ 0x40
unfolding least_lead
least-most [] = omega arith
least-most (b ∷ s) = omega (arith, least-most s)

-- m is the least of the first i bytes
pub record LeastSoFar (s : List ℕ) (m i : ℕ) : Type 0 where
  pub most : i ≤ length s
  pub small : m ≤ 0x40
  pub with_rest : min m (least_lead (drop i s)) ≡ least_lead s

pub least-none : {s : List ℕ} → LeastSoFar s 0x40 0
least-none {s} = record { most = omega arith; small = omega arith; with_rest = omega (arith, least-most s) }

pub least_more : {s : List ℕ} {m i b r : ℕ} → LeastSoFar s m i → i < length s → b ≡ from_lead (get_or s i 0) → r ≡ min m b → LeastSoFar s r (i + 1)
unfolding least_lead
least_more {s} {i = i} k h here new =
    let split = rw (drop-cons s i 0 h) at k.with_rest in
    record { most = omega arith; small = omega (arith, k.small); with_rest = rw add-one (omega arith) }

pub least-done : {s : List ℕ} {m i : ℕ} → LeastSoFar s m i → length s ≤ i → m ≡ least_lead s
unfolding least_lead
least-done {s} k past = let none = rw (drop_of_length-le s past) at k.with_rest in omega (arith, k.small)

-- a text in two parts
least-parts : (n : ℕ) (s : List ℕ) → min (least_lead (take n s)) (least_lead (drop n s)) ≡ least_lead s
unfolding least_lead
least-parts zero s = omega (arith, least-most s)
least-parts (suc n) [] = refl
least-parts (suc n) (b ∷ s) = omega (arith, least-parts n s)

pub parts-least : (s : List ℕ) {a b m : ℕ} → a ≡ least_lead (take 3 s) → b ≡ least_lead (part s 3 (length s)) → m ≡ min a b → m ≡ least_lead s
parts-least s front back both =
    let rest = rw (← length-drop 3 s, take-length (drop 3 s)) at back in
    omega (arith, least-parts 3 s)
