-- Laws of `matchesFrom`: a list of matches goes on from the end of each.
use Prim.Native.Nat.{ℕ, zero, suc, ◌+◌, ◌-◌, ◌≤◌, ◌<◌}
use mathlib.Core.Path.{◌≡◌, ◌∙◌}
use mathlib.Core.Bool.{true, cond}
use mathlib.Core.List.{List, [], ◌∷◌, ◌++◌, append-nil}
use native.Mathlib.Omega.{arith}
use lib.Dec.{ltb}
use lib.ListN.{length}
use borrow.Author.Tests.{le-ltb, lt-ltb}
use Rattle.buffers.proofs.Cases.{le-or-lt}
use Rattle.find.specs.Matching.{first_from, FirstMatch, place_from, between, matches_within, matches_from}
use Rattle.find.proofs.Occurs.{occurs-inside}
use Rattle.find.proofs.FirstFrom.{first-leftmost}

-- more matches allowed than there is room for change nothing
module _ (text literal : List ℕ) (some : 0 < length literal) where
  within-enough : (n m at : ℕ) → at ≤ length text → length text - at < n → length text - at < m → matches_within text literal n at ≡ matches_within text literal m at
  unfolding matches_within
  within-enough zero m at most hn hm = absurd (omega arith)
  within-enough (suc n) zero at most hn hm = absurd (omega arith)
  within-enough (suc n) (suc m) at most hn hm =
      let p : ℕ = first_from text literal at in
      let f : FirstMatch text literal at p = first-leftmost text literal at most in
      le-or-lt (length text) p
      (λ h. rw (le-ltb p (length text) h))
      (λ h.
      let inside : p + length literal ≤ length text = occurs-inside text literal p some (f.occurs h) in
      rw (within-enough n m (p + length literal) inside (omega (arith, f.from)) (omega (arith, f.from))))

  -- what is before the first match, the match, and all others from its end
  matches-step : (at : ℕ) → at ≤ length text
      → matches_from text literal at
      ≡ between at (first_from text literal at) ++ cond (ltb (first_from text literal at) (length text))
      (place_from (first_from text literal at) (first_from text literal at + length literal) true ∷ matches_from text literal (first_from text literal at + length literal))
      []
  unfolding matches_from matches_within
  matches-step at most =
      let p : ℕ = first_from text literal at in
      let f : FirstMatch text literal at p = first-leftmost text literal at most in
      le-or-lt (length text) p
      (λ h. rw (le-ltb p (length text) h))
      (λ h.
      let inside : p + length literal ≤ length text = occurs-inside text literal p some (f.occurs h) in
      rw (within-enough (length text - at) (suc (length text - (p + length literal))) (p + length literal) inside (omega (arith, f.from)) (omega arith)))

-- the search goes on from `at`, and p is the first match from there, or the end
pub record Searched (text literal : List ℕ) (at p : ℕ) : Type 0 where
  pub some : 0 < length literal
  pub most : at ≤ length text
  pub next : p ≡ first_from text literal at

module _ {text literal : List ℕ} {at p : ℕ} (s : Searched text literal at p) where
  pub first-there : FirstMatch text literal at p
  first-there = rw s.next (first-leftmost text literal at s.most)

  module _ (h : p < length text) where
    pub match-inside : p + length literal ≤ length text
    match-inside = occurs-inside text literal p s.some (first-there.occurs h)

    pub searched-more : {q : ℕ} → q ≡ first_from text literal (p + length literal) → Searched text literal (p + length literal) q
    searched-more e = record { some = s.some; most = match-inside; next = e }

    pub matches-more : matches_from text literal at ≡ between at p ++ (place_from p (p + length literal) true ∷ matches_from text literal (p + length literal))
    matches-more = matches-step text literal s.some at s.most ∙ rw (← s.next, lt-ltb p (length text) h)

  pub matches-end : length text ≤ p → matches_from text literal at ≡ between at p
  matches-end h = matches-step text literal s.some at s.most ∙ rw (← s.next, le-ltb p (length text) h, append-nil (between at p))
