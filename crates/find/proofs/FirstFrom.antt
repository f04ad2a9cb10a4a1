-- Laws of `firstFrom` and `firstMatch`: the first position at which a literal occurs is the least one.
use Prim.Native.Nat.{ℕ, zero, suc, ◌+◌, ◌-◌, ◌<◌}
use mathlib.Core.Path.{◌≡◌}
use mathlib.Core.List.{List}
use native.Mathlib.Omega.{arith}
use lib.ListN.{length}
use borrow.Author.Tests.{ne_eqb}
use Rattle.buffers.proofs.Cases.{le-or-lt, true-or-false, clash}
use Rattle.find.specs.Matching.{occurs_at, first_of, first_from, FirstMatch, FirstLeftmost}
use Rattle.find.specs.Searching.{first_match}

first-of : (text literal : List ℕ) (n at : ℕ) → n + at ≡ length text → FirstMatch text literal at (first_of text literal n at)
unfolding first_of
first-of text literal zero at h =
    record { from = omega arith; most = omega arith; before = λ k a b. absurd (omega arith); occurs = λ b. absurd (omega arith) }
first-of text literal (suc n) at h =
    true-or-false (occurs_at text literal at)
    (λ t. rw t (record { from = omega arith; most = omega arith; before = λ k a b. absurd (omega arith); occurs = λ b. t }))
    (λ f.
    let rest : FirstMatch text literal (suc at) (first_of text literal n (suc at)) = first-of text literal n (suc at) (omega arith) in
    rw f
    (record {
      from = omega (arith, rest.from);
      most = rest.most;
      before = λ k a b. le-or-lt k at (λ h2. let e : k ≡ at = omega arith in rw e f) (λ h2. rest.before k (omega arith) b);
      occurs = rest.occurs;
    }))

pub first-leftmost : FirstLeftmost
unfolding first_from
first-leftmost text literal at h = first-of text literal (length text - at) at (omega arith)

-- and there is no other
pub first-unique : {text literal : List ℕ} {at p : ℕ} → FirstMatch text literal at p → p ≡ first_from text literal at
first-unique {text} {literal} {at} {p} f =
    let q : ℕ = first_from text literal at in
    let g : FirstMatch text literal at q = first-leftmost text literal at (omega (arith, f.from, f.most)) in
    le-or-lt p q
    (λ h. le-or-lt q p (λ k. omega arith) (λ k. clash (occurs_at text literal p) (f.occurs (omega (arith, g.most))) (g.before p f.from k)))
    (λ h. clash (occurs_at text literal q) (g.occurs (omega (arith, f.most))) (f.before q g.from h))

module _ (text literal : List ℕ) where
  pub first-of-none : length literal ≡ 0 → first_match text literal ≡ length text
  unfolding first_match
  first-of-none h = rw h

  pub first-of-some : 0 < length literal → first_match text literal ≡ first_from text literal 0
  unfolding first_match
  first-of-some h = rw (ne_eqb (length literal) 0 (λ none. omega arith))
