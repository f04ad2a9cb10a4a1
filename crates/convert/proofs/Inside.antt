-- Where a converted range lies: inside the other text, with both ends on its boundaries.
use Prim.Native.Nat.{ℕ, zero, suc, ◌+◌, ◌-◌, ◌≤◌, ◌<◌}
use mathlib.Core.Path.{◌≡◌, ◌∙◌, refl, sym}
use mathlib.Core.Bool.{true}
use mathlib.Core.List.{List}
use mathlib.Core.Logic.{inl, inr}
use native.Mathlib.Omega.{arith}
use lib.Dec.{leb, ltb, eqb}
use lib.ListN.{length, get_or}
use borrow.Author.Tests.{eqb-true, eqb-false, ltb-false, leb-true}
use Rattle.buffers.proofs.Cases.{le-or-lt, true-or-false, clash}
use Rattle.utf8.specs.Formed.{continues, boundary}
use Rattle.utf8.proofs.Boundaries.{boundary-at, boundary-zero, boundary-length, Between, between-char-range}
use Rattle.note.specs.Notes.{Note, start_at, end_at, Sound}
use Rattle.note.proofs.Faults.{accepted-sound}
use Rattle.note.proofs.Sound.{length-starts, length-ends, normalized-formed, inside-at, boundaries-at, shared_at, starts_forward}
use Rattle.convert.specs.declared.Range.{Range}
use Rattle.convert.specs.declared.Range.TheVariants.{Original, Normalized}
use Rattle.convert.specs.Converting.{in_original, can_be_first, expanded, to_original, to_normalized, converted, convert_offsets}
use Rattle.convert.specs.Leading.{leading, Qualifies, First}
use Rattle.convert.specs.Inside.{Outcome, ConvertedInside}
use Rattle.convert.proofs.Answered.{answered-accepted, converted-missing}
use Rattle.convert.proofs.Leading.{leading-most, leading-within, leading-past, begins-qualifies, qualifies-begins, converted-by-leading}

-- a first alignment that qualifies, or none
pub first_or_none : (starts ends : List ℕ) (from k : ℕ) {P : Type 0} → ((i : ℕ) → First starts ends from k i → P) → (((i : ℕ) → i < k → Qualifies starts ends from i → ⊥) → P) → P
first_or_none starts ends from zero first none = none (λ i h q. omega arith)
first_or_none starts ends from (suc k) first none =
    first_or_none starts ends from k
    (λ i w. first i (record { below = omega (arith, w.below); qualifies = w.qualifies; none_before = w.none_before }))
    (λ never.
    true-or-false (can_be_first from (get_or starts k 0) (get_or ends k 0))
    (λ t. first k (record { below = omega arith; qualifies = begins-qualifies _ _ _ t; none_before = never }))
    (λ f. none (λ i h q.
    le-or-lt k i
    (λ top. let last : i ≡ k = omega arith in clash (can_be_first from (get_or starts k 0) (get_or ends k 0)) (qualifies-begins from (get_or starts k 0) (get_or ends k 0) (rw last at q.0) (rw last at q.1)) f)
    (λ below. never i below q))))

module _ (n : Note) (sound : Sound n) (from to : ℕ) where
  abbrev k : ℕ
  k = leading n.ends to

  -- a byte that continues a character has the alignment of the byte before it: it does not qualify first, and it leads with it
  first-boundary : (i : ℕ) → First n.starts n.ends from k i → i < length n.normalized → boundary n.normalized i ≡ true
  first-boundary zero w h = boundary-zero n.normalized (normalized-formed n sound)
  first-boundary (suc i) w h =
      boundary-at n.normalized (suc i) (omega arith)
      (true-or-false (continues (get_or n.normalized (suc i) 0))
      (λ more.
      let same : (start_at n i ≡ start_at n (suc i)) × (end_at n i ≡ end_at n (suc i)) = shared_at n sound i h more in
      absurd (w.none_before i (omega arith) (rw (same.0, same.1) w.qualifies)))
      (λ new. new))

  last-boundary : 0 < k → boundary n.normalized k ≡ true
  last-boundary some =
      let most : k ≤ length n.normalized = omega (arith, leading-most n.ends to, length-ends n sound) in
      let next : suc (k - 1) ≡ k = omega arith in
      le-or-lt (length n.normalized) k
      (λ all. let end : k ≡ length n.normalized = omega arith in rw end (boundary-length n.normalized))
      (λ h.
      boundary-at n.normalized k most
      (true-or-false (continues (get_or n.normalized k 0))
      (λ more.
      let same : end_at n (k - 1) ≡ end_at n (suc (k - 1)) = (shared_at n sound (k - 1) (omega arith) (rw next more)).1 in
      absurd (omega (arith, rw next at same, leading-within n.ends to (k - 1) (omega arith), leading-past n.ends to (omega (arith, length-ends n sound)))))
      (λ new. new)))

module _ (n : Note) (sound : Sound n) where
  walked-inside : (a b : ℕ) → a < b → Outcome n (in_original a b) (converted n.starts n.ends (in_original a b))
  walked-inside a b some =
      let by = converted-by-leading n.starts n.ends a b (length-starts n sound ∙ sym (length-ends n sound)) some in
      let k : ℕ = leading n.ends b in
      let most : k ≤ length n.normalized = omega (arith, leading-most n.ends b, length-ends n sound) in
      le-or-lt k 0
      (λ none. rw (by.none_leads (omega arith)) refl)
      (λ leads.
      first_or_none n.starts n.ends a k
      (λ i w.
      let start : boundary n.normalized i ≡ true = first-boundary n sound a b i w (omega (arith, w.below)) in
      rw (by.from_first i w) (inr (between-char-range n.normalized i k (omega (arith, w.below)) start (last-boundary n sound a b leads))))
      (λ never.
      let last : boundary n.normalized k ≡ true = last-boundary n sound a b leads in
      rw (by.no_first leads never) (inr (between-char-range n.normalized k k (omega arith) last last))))

  pub expanded-inside : (a b : ℕ) → a < b → b ≤ length n.ends → Between n.original (start_at n a) (end_at n (b - 1))
  expanded-inside a b h most =
      let first : a < length n.normalized = omega (arith, length-ends n sound) in
      let last : b - 1 < length n.normalized = omega (arith, length-ends n sound) in
      let at : a + (b - 1 - a) ≡ b - 1 = omega arith in
      record {
        onward = omega (arith, rw at at (starts_forward n sound a (b - 1 - a) (omega arith)), (inside-at n sound (b - 1) last).0);
        inside = (inside-at n sound (b - 1) last).1;
        from_boundary = (boundaries-at n sound a first).0;
        to_boundary = (boundaries-at n sound (b - 1) last).1;
      }

  pub inside : (range : Range) → Outcome n range (converted n.starts n.ends range)
  unfolding converted to_original to_normalized expanded
  inside (Original a b) =
      true-or-false (eqb a.0 b.0)
      (λ t. rw t (inl (eqb-true _ _ t, refl)))
      (λ f. true-or-false (ltb b.0 a.0)
      (λ t. rw (f, t) refl)
      (λ g. walked-inside a.0 b.0 (omega (arith, eqb-false a.0 b.0 f, ltb-false b.0 a.0 g))))
  inside (Normalized a b) =
      true-or-false (eqb a.0 b.0)
      (λ t. rw t (inl (eqb-true _ _ t, refl)))
      (λ f. true-or-false (ltb b.0 a.0)
      (λ t. rw (f, t) refl)
      (λ g. true-or-false (leb b.0 (length n.ends))
      (λ t.
      let some : a.0 < b.0 = omega (arith, eqb-false a.0 b.0 f, ltb-false b.0 a.0 g) in
      let lies : Between n.original (start_at n a.0) (end_at n (b.0 - 1)) = expanded-inside a.0 b.0 some (leb-true _ _ t) in
      rw (f, g, t) (inr (between-char-range _ _ _ lies.onward lies.from_boundary lies.to_boundary)))
      (λ k. rw (f, g, k) refl)))

pub converted-inside : ConvertedInside
unfolding convert_offsets
converted-inside most n ok range =
    rw (← answered-accepted most n (converted n.starts n.ends range) refl ok (converted-missing n.starts n.ends range))
    (inside n (accepted-sound most n ok).0 range)
