-- Laws of `leading`: which alignments it counts, and how the walk ends by it.
use Prim.Native.Nat.{ℕ, zero, suc, ◌+◌, ◌≤◌, ◌<◌}
use mathlib.Core.Path.{◌≡◌, ◌∙◌, ap, refl}
use mathlib.Core.Bool.{true, false}
use mathlib.Core.List.{List, [], ◌∷◌}
use native.Mathlib.Omega.{arith}
use lib.Dec.{leb}
use lib.ListN.{length, get_or}
use borrow.Author.Tests.{le-leb, le-ltb, leb-true, leb-false, eq-eqb, ne_eqb}
use mathlib.Mathlib.Data.Bool.Basic.{and_elim_left}
use Rattle.buffers.proofs.Cases.{clash, true-or-false}
use Rattle.note.specs.declared.NormalizedByte.{NormalizedByte}
use Rattle.convert.specs.declared.Places.{Places}
use Rattle.convert.specs.declared.Places.TheVariants.{Neither, Last, Both}
use Rattle.convert.specs.Converting.{in_original, can_be_first, first_places, places_after, walk_from, walked, spanned, to_normalized, converted}
use Rattle.convert.specs.Leading.{leading, Qualifies, First, ConvertedByLeading}

pub leading-most : (ends : List ℕ) (to : ℕ) → leading ends to ≤ length ends
unfolding leading
leading-most [] to = omega arith
leading-most (e ∷ ends) to =
    true-or-false (leb e to) (λ t. rw t (omega (arith, leading-most ends to))) (λ f. rw f (omega arith))

-- the alignments that are counted end in time, and the next one does not
pub leading-within : (ends : List ℕ) (to i : ℕ) → i < leading ends to → get_or ends i 0 ≤ to
unfolding leading
leading-within [] to i h = absurd (omega arith)
leading-within (e ∷ ends) to zero h =
    true-or-false (leb e to) (λ t. leb-true e to t) (λ f. absurd (omega (arith, rw f at h)))
leading-within (e ∷ ends) to (suc i) h =
    true-or-false (leb e to)
    (λ t. leading-within ends to i (omega (arith, rw t at h)))
    (λ f. absurd (omega (arith, rw f at h)))

pub leading-past : (ends : List ℕ) (to : ℕ) → leading ends to < length ends → to < get_or ends (leading ends to) 0
unfolding leading
leading-past [] to h = absurd (omega arith)
leading-past (e ∷ ends) to h =
    true-or-false (leb e to)
    (λ t. rw t (leading-past ends to (omega (arith, rw t at h))))
    (λ f. rw f (leb-false e to f))

-- whether the alignment at a byte qualifies, as the walk tests it
module _ (from s e : ℕ) where
  pub begins-qualifies : can_be_first from s e ≡ true → (from ≤ s) × (s ≡ e → ⊥)
  begins-qualifies t = (
    leb-true from s (and_elim_left (leb from s) _ t),
    λ is. clash (can_be_first from s e) t (rw (le-leb from s (leb-true from s (and_elim_left (leb from s) _ t)), eq-eqb s e is)),
  )

  pub qualifies-begins : from ≤ s → (s ≡ e → ⊥) → can_be_first from s e ≡ true
  qualifies-begins h wide = rw (le-leb from s h, ne_eqb s e wide)

  begins-not : ((from ≤ s) × (s ≡ e → ⊥) → ⊥) → can_be_first from s e ≡ false
  begins-not never = true-or-false (can_be_first from s e) (λ t. absurd (never (begins-qualifies t))) (λ f. f)

abbrev byte : ℕ → NormalizedByte
byte i = record { 0 = i }

both : {a b c d : ℕ} → a ≡ c → b ≡ d → Both (byte a) (byte b) ≡ Both (byte c) (byte d)
both p q = rw (p, q)

last : {a b : ℕ} → a ≡ b → Last (byte a) ≡ Last (byte b)
last p = rw p

-- no first place is noted yet
abbrev NoFirst : Places → Type 0
NoFirst found = (from i s e : ℕ) → places_after from i s e found ≡ first_places from i s e

last-no_first : (l : NormalizedByte) → NoFirst (Last l)
unfolding places_after
last-no_first l from i s e = refl

-- THE WALK FROM THE BYTE AT i ON: with a first place; where there is none; where the first is at j
rest_both : (starts ends : List ℕ) (from to i f : ℕ) → length starts ≡ length ends → walk_from i starts ends from to (Both (byte f) (byte i)) ≡ Both (byte f) (byte (i + leading ends to))
unfolding walk_from leading places_after
rest_both [] [] from to i f same = both refl (omega arith)
rest_both [] (e ∷ ends) from to i f same = absurd (omega arith)
rest_both (s ∷ starts) [] from to i f same = absurd (omega arith)
rest_both (s ∷ starts) (e ∷ ends) from to i f same =
    true-or-false (leb e to)
    (λ t. rw t (rest_both starts ends from to (i + 1) f (omega arith) ∙ both refl (omega arith)))
    (λ u. rw u (both refl (omega arith)))

rest-neither : (starts ends : List ℕ) (from to i : ℕ) (found : Places) → leading ends to ≡ 0 → walk_from i starts ends from to found ≡ found
unfolding walk_from leading
rest-neither [] ends from to i found none = refl
rest-neither (s ∷ starts) [] from to i found none = refl
rest-neither (s ∷ starts) (e ∷ ends) from to i found none =
    true-or-false (leb e to) (λ t. absurd (omega (arith, rw t at none))) (λ u. rw u)

rest-last : (starts ends : List ℕ) (from to i : ℕ) → length starts ≡ length ends → ((j : ℕ) → j < leading ends to → Qualifies starts ends from j → ⊥) → walk_from i starts ends from to (Last (byte i)) ≡ Last (byte (i + leading ends to))
unfolding walk_from leading places_after first_places
rest-last [] [] from to i same none = last (omega arith)
rest-last [] (e ∷ ends) from to i same none = absurd (omega arith)
rest-last (s ∷ starts) [] from to i same none = absurd (omega arith)
rest-last (s ∷ starts) (e ∷ ends) from to i same none =
    true-or-false (leb e to)
    (λ t.
    let fewer : (j : ℕ) → j < suc (leading ends to) → Qualifies (s ∷ starts) (e ∷ ends) from j → ⊥ = rw t at none in
    rw (t, begins-not from s e (fewer 0 (omega arith)))
    (rest-last starts ends from to (i + 1) (omega arith) (λ j h. fewer (suc j) (omega arith)) ∙ last (omega arith)))
    (λ u. rw u (last (omega arith)))

rest-none : (starts ends : List ℕ) (from to i : ℕ) (found : Places) → NoFirst found → length starts ≡ length ends → 0 < leading ends to → ((j : ℕ) → j < leading ends to → Qualifies starts ends from j → ⊥) → walk_from i starts ends from to found ≡ Last (byte (i + leading ends to))
unfolding walk_from leading first_places
rest-none starts [] from to i found fresh same some none = absurd (omega arith)
rest-none [] (e ∷ ends) from to i found fresh same some none = absurd (omega arith)
rest-none (s ∷ starts) (e ∷ ends) from to i found fresh same some none =
    true-or-false (leb e to)
    (λ t.
    let fewer : (j : ℕ) → j < suc (leading ends to) → Qualifies (s ∷ starts) (e ∷ ends) from j → ⊥ = rw t at none in
    rw (t, fresh from i s e, begins-not from s e (fewer 0 (omega arith)))
    (rest-last starts ends from to (i + 1) (omega arith) (λ j h. fewer (suc j) (omega arith)) ∙ last (omega arith)))
    (λ u. absurd (omega (arith, rw u at some)))

rest-first : (starts ends : List ℕ) (from to i j : ℕ) (found : Places) → NoFirst found → length starts ≡ length ends → First starts ends from (leading ends to) j → walk_from i starts ends from to found ≡ Both (byte (i + j)) (byte (i + leading ends to))
unfolding walk_from leading first_places
rest-first starts [] from to i j found fresh same w = absurd (omega (arith, w.below))
rest-first [] (e ∷ ends) from to i j found fresh same w = absurd (omega arith)
rest-first (s ∷ starts) (e ∷ ends) from to i zero found fresh same w =
    true-or-false (leb e to)
    (λ t.
    rw (t, fresh from i s e, qualifies-begins from s e w.qualifies.0 w.qualifies.1)
    (rest_both starts ends from to (i + 1) i (omega arith) ∙ both (omega arith) (omega arith)))
    (λ u. absurd (omega (arith, (rw u at w).below)))
rest-first (s ∷ starts) (e ∷ ends) from to i (suc j) found fresh same w =
    true-or-false (leb e to)
    (λ t.
    let less : suc j < suc (leading ends to) = (rw t at w).below in
    rw (t, fresh from i s e, begins-not from s e (w.none_before 0 (omega arith)))
    (rest-first starts ends from to (i + 1) j (Last (byte (i + 1))) (last-no_first _) (omega arith)
    (record { below = omega arith; qualifies = w.qualifies; none_before = λ m h. w.none_before (suc m) (omega arith) })
    ∙ both (omega arith) (omega arith)))
    (λ u. absurd (omega (arith, (rw u at w).below)))

pub converted-walked : (starts ends : List ℕ) (from to : ℕ) → from < to → converted starts ends (in_original from to) ≡ spanned (walked starts ends from to)
unfolding converted to_normalized
converted-walked starts ends from to some =
    let differ : from ≡ to → ⊥ = λ e. omega arith in
    rw (ne_eqb from to differ, le-ltb to from (omega arith))

pub converted-by-leading : ConvertedByLeading
unfolding walked places_after
converted-by-leading starts ends from to same some =
    let walks = converted-walked starts ends from to some in
    record {
      none_leads = λ none. walks ∙ ap spanned (rest-neither starts ends from to 0 Neither none);
      from_first = λ i first.
          walks ∙ ap spanned (rest-first starts ends from to 0 i Neither (λ a b c d. refl) same first ∙ both (omega arith) (omega arith));
      no_first = λ k none.
          walks ∙ ap spanned (rest-none starts ends from to 0 Neither (λ a b c d. refl) same k none ∙ last (omega arith));
    }
