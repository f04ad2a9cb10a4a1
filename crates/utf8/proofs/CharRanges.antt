-- Laws of `charStart` and `charEnd`: a byte's range holds the byte, ends on boundaries, and is the next byte's range or
-- ends before it.
use Prim.Native.Nat.{ℕ, zero, suc, ◌+◌, ◌-◌, ◌≤◌, ◌<◌}
use mathlib.Core.Path.{◌≡◌, ◌∙◌, refl, sym}
use mathlib.Core.Bool.{true, false}
use mathlib.Core.List.{List}
use native.Mathlib.Omega.{arith}
use lib.ListN.{length, get_or}
use Rattle.buffers.proofs.Cases.{le-or-lt, true-or-false, clash}
use Rattle.utf8.specs.Formed.{well_formed, continues, announced, boundary}
use Rattle.utf8.specs.CharRanges.{char_start, char_end}
use Rattle.utf8.proofs.Boundaries.{CharAt, char-at, boundary-zero, boundary-at, boundary-begins}

-- the next byte's range: the same where the byte continues the character
pub char_start-continues : (s : List ℕ) (i : ℕ) → continues (get_or s (suc i) 0) ≡ true → char_start s (suc i) ≡ char_start s i
unfolding char_start
char_start-continues s i e = rw e

pub char_start-begins : (s : List ℕ) (i : ℕ) → continues (get_or s i 0) ≡ false → char_start s i ≡ i
unfolding char_start
char_start-begins s zero e = refl
char_start-begins s (suc i) e = rw e

pub char_end-continues : (s : List ℕ) (i : ℕ) → continues (get_or s (suc i) 0) ≡ true → char_end s (suc i) ≡ char_end s i
unfolding char_end
char_end-continues s i e = rw (char_start-continues s i e)

-- the range of the byte at i
pub record Ranged (s : List ℕ) (i : ℕ) : Type 0 where
  pub from : char_start s i ≤ i
  pub begins : boundary s (char_start s i) ≡ true
  pub past : i < char_end s i
  pub most : char_end s i ≤ length s
  pub ends : boundary s (char_end s i) ≡ true
  pub rest : (k : ℕ) → char_start s i < k → k < char_end s i → continues (get_or s k 0) ≡ true

-- where the byte at i begins a character
ranged-begins : (s : List ℕ) (i : ℕ) → well_formed s ≡ true → boundary s i ≡ true → i < length s → Ranged s i
unfolding char_end
ranged-begins s i p e h =
    let at : CharAt s i (announced (get_or s i 0)) = char-at s i p e h in
    let here : char_start s i ≡ i = char_start-begins s i (boundary-begins s i e) in
    record {
      from = omega arith;
      begins = rw here e;
      past = rw here (omega arith);
      most = rw here at.inside;
      ends = rw here at.ends;
      rest = rw here at.rest;
    }

-- where the byte after it continues its character
ranged-continues : (s : List ℕ) (i : ℕ) → Ranged s i → continues (get_or s (suc i) 0) ≡ true → Ranged s (suc i)
ranged-continues s i r more =
    let start : char_start s (suc i) ≡ char_start s i = char_start-continues s i more in
    let end : char_end s (suc i) ≡ char_end s i = char_end-continues s i more in
    let on : suc i < char_end s i =
    le-or-lt (char_end s i) (suc i)
    (λ last.
    let at : char_end s i ≡ suc i = omega arith in
    clash (continues (get_or s (suc i) 0)) more (rw at at (boundary-begins s (char_end s i) r.ends)))
    (λ below. below) in
    record {
      from = omega arith;
      begins = rw start r.begins;
      past = omega arith;
      most = omega arith;
      ends = rw end r.ends;
      rest = rw (start, end) r.rest;
    }

pub ranged : (s : List ℕ) (i : ℕ) → well_formed s ≡ true → i < length s → Ranged s i
ranged s zero p h = ranged-begins s 0 p (boundary-zero s p) h
ranged s (suc i) p h =
    true-or-false (continues (get_or s (suc i) 0))
    (λ more. ranged-continues s i (ranged s i p (omega arith)) more)
    (λ new. ranged-begins s (suc i) p (boundary-at s (suc i) (omega arith) new) h)

-- the next byte's range begins where this one's ends, unless it continues the character
pub char_end-begins : (s : List ℕ) (i : ℕ) → Ranged s i → continues (get_or s (suc i) 0) ≡ false → char_end s i ≡ suc i
char_end-begins s i r new =
    le-or-lt (char_end s i) (suc i)
    (λ last. omega arith)
    (λ below. clash (continues (get_or s (suc i) 0)) (r.rest (suc i) (omega arith) below) new)

pub start-carried : (s : List ℕ) (i : ℕ) → continues (get_or s i 0) ≡ true → char_start s i ≡ char_start s (i - 1)
start-carried s zero e = refl
start-carried s (suc i) e = let back : suc i - 1 ≡ i = omega arith in rw back (char_start-continues s i e)

-- one byte's range, walked to: its character begins where that of the byte at k does, or ends where the one before k does
pub record StartBack (s : List ℕ) (i k : ℕ) : Type 0 where
  pub here : char_start s i ≡ char_start s k
  pub most : k ≤ i

pub start-step : {s : List ℕ} {i k : ℕ} → StartBack s i k → continues (get_or s k 0) ≡ true → StartBack s i (k - 1)
start-step {s} {i} {k} w e = record { here = w.here ∙ start-carried s k e; most = omega (arith, w.most) }

pub start_first : {s : List ℕ} {i k : ℕ} → StartBack s i k → k ≤ 0 → 0 ≡ char_start s i
unfolding char_start
start_first {k = k} w h = let none : k ≡ 0 = omega arith in sym (w.here ∙ rw none)

pub record EndAhead (s : List ℕ) (i k : ℕ) : Type 0 where
  pub here : char_end s i ≡ char_end s (k - 1)
  pub past : i < k
  pub most : k ≤ length s

pub end-last : {s : List ℕ} {i k : ℕ} → well_formed s ≡ true → EndAhead s i k → length s ≤ k → k ≡ char_end s i
end-last {s} {i} {k} p w h = let r : Ranged s (k - 1) = ranged s (k - 1) p (omega (arith, w.past, w.most)) in omega (arith, w.here, w.past, w.most, r.past, r.most)

-- the end before a byte that begins a character, and before one that does not
pub end-begun : (s : List ℕ) (i : ℕ) → well_formed s ≡ true → i < length s → continues (get_or s i 0) ≡ false → 0 < i → i ≡ char_end s (i - 1)
end-begun s zero p h new some = absurd (omega arith)
end-begun s (suc i) p h new some =
    let back : suc i - 1 ≡ i = omega arith in
    rw back (sym (char_end-begins s i (ranged s i p (omega arith)) new))

pub end-carried : (s : List ℕ) (i : ℕ) → continues (get_or s i 0) ≡ true → 0 < i → char_end s i ≡ char_end s (i - 1)
end-carried s zero more some = absurd (omega arith)
end-carried s (suc i) more some = let back : suc i - 1 ≡ i = omega arith in rw back (char_end-continues s i more)

pub end_step : {s : List ℕ} {i k : ℕ} → EndAhead s i k → k < length s → continues (get_or s k 0) ≡ true → EndAhead s i (k + 1)
end_step {s} {i} {k} w h e =
    let back : k + 1 - 1 ≡ k = omega arith in
    record { here = rw back (w.here ∙ sym (end-carried s k e (omega (arith, w.past)))); past = omega (arith, w.past); most = omega arith }

pub end_found : {s : List ℕ} {i k : ℕ} → well_formed s ≡ true → EndAhead s i k → k < length s → continues (get_or s k 0) ≡ false → k ≡ char_end s i
end_found {s} {i} {k} p w h e = end-begun s k p h e (omega (arith, w.past)) ∙ sym w.here
