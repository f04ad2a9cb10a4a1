-- What a slice that is neither off a boundary nor missing is of: its range in both texts, and what the alignments of its bytes are there.
use Prim.Native.Nat.{ℕ, suc, ◌-◌, ◌≤◌, ◌<◌}
use mathlib.Core.Path.{◌≡◌, ◌∙◌, ap, refl, sym}
use mathlib.Core.Bool.{Bool, true, false, ◌||◌}
use mathlib.Core.List.{List}
use mathlib.Core.Logic.{◌⊎◌, inl, inr, ⊎_elim}
use mathlib.Mathlib.Data.Bool.Basic.{and_elim_left, and_elim_right}
use native.Mathlib.Omega.{arith}
use lib.Dec.{ltb}
use lib.ListN.{length, get_or}
use borrow.Author.Tests.{ltb-false, lt-ltb, eq-eqb, ne_eqb, le-ltb}
use Rattle.std.specs.Prelude.{Result, Ok, Err}
use Rattle.buffers.specs.Splice.{part}
use Rattle.buffers.proofs.Cases.{le-or-lt, clash}
use Rattle.utf8.specs.Formed.{well_formed, formed, boundary}
use Rattle.utf8.proofs.Boundaries.{boundary-most, formed-part, Between, char-range-between}
use Rattle.note.specs.declared.Refusal.TheVariants.{Missing}
use Rattle.note.specs.Notes.{Note, start_at, end_at, before_end, Sound}
use Rattle.note.proofs.BeforeEnd.{before-some}
use Rattle.note.proofs.Sound.{length-starts, length-ends, original_formed, normalized-formed, inside-at}
use Rattle.note.proofs.Stretch.{before-le}
use Rattle.convert.specs.declared.Range.{Range}
use Rattle.convert.specs.declared.Range.TheVariants.{Original, Normalized}
use Rattle.convert.specs.Converting.{in_original, in_normalized, expanded, to_original, to_normalized, converted, start_in, end_in, missing}
use Rattle.convert.specs.Leading.{leading}
use Rattle.convert.specs.Inside.{Outcome}
use Rattle.convert.proofs.Leading.{leading-most, leading-within, converted-by-leading}
use Rattle.convert.proofs.Conversions.{expanded-inside}
use Rattle.convert.proofs.Inside.{first_or_none, expanded-inside as expanded-lies, inside}
use Rattle.convert.specs.Converting.{as_original, as_normalized}
use Rattle.slice.specs.Slicing.{valid_range, unplaced, slice_missing}
use Rattle.note.specs.declared.Refusal.{Refusal}

pub record Cutting (n : Note) (range : Range) : Type 0 where
  pub a : ℕ
  pub b : ℕ
  pub c : ℕ
  pub d : ℕ
  pub original_is : as_original n.starts n.ends range ≡ Ok (in_original a b)
  pub normalized_is : as_normalized n.starts n.ends range ≡ Ok (in_normalized c d)
  pub forward : c ≤ d
  pub inside : d ≤ length n.normalized
  pub near : (a ≤ length n.original) ⊎ (a ≤ length n.normalized)
  pub original_part : well_formed (part n.original a b) ≡ true
  pub normalized_part : well_formed (part n.normalized c d) ≡ true
  pub original_lies : c < d → Between n.original a b
  pub above : (i : ℕ) → c ≤ i → i < d → a ≤ start_at n i
  pub below : (i : ℕ) → c ≤ i → i < d → end_at n i ≤ b

-- an empty part is well-formed wherever it is
pub empty-formed : (s : List ℕ) (k : ℕ) → well_formed (part s k k) ≡ true
unfolding formed
empty-formed s k = let none : k - k ≡ 0 = omega arith in rw none refl

-- the range in the other text, by cases
module _ (starts ends : List ℕ) (x y : ℕ) where
  pub original-empty : x ≡ y → as_original starts ends (in_normalized x y) ≡ Ok (in_original x y)
  unfolding as_original converted to_original
  original-empty e = rw (eq-eqb x y e)

  pub original-found : x < y → y ≤ length ends → as_original starts ends (in_normalized x y) ≡ expanded starts ends x y
  unfolding as_original converted to_original
  original-found h most = rw (ne_eqb x y (λ e. omega arith), le-ltb y x (omega arith))

  pub normalized-own : as_normalized starts ends (in_normalized x y) ≡ Ok (in_normalized x y)
  unfolding as_normalized
  normalized-own = refl

  pub original-own : as_original starts ends (in_original x y) ≡ Ok (in_original x y)
  unfolding as_original
  original-own = refl

  pub normalized-empty : x ≡ y → as_normalized starts ends (in_original x y) ≡ Ok (in_normalized x y)
  unfolding as_normalized converted to_normalized
  normalized-empty e = rw (eq-eqb x y e)

  pub normalized-found : as_normalized starts ends (in_original x y) ≡ converted starts ends (in_original x y)
  unfolding as_normalized
  normalized-found = refl

-- a reversed range is in no other text
module _ (starts ends : List ℕ) (x y : ℕ) (reversed : y < x) where
  pub reversed-original : missing (as_original starts ends (in_normalized x y)) ≡ true
  unfolding as_original converted to_original
  reversed-original = rw (ne_eqb x y (λ e. omega arith), lt-ltb y x reversed)

  reversed-none : start_in (as_original starts ends (in_normalized x y)) ≡ 0
  unfolding as_original converted to_original
  reversed-none = rw (ne_eqb x y (λ e. omega arith), lt-ltb y x reversed)

  pub reversed-normalized : missing (as_normalized starts ends (in_original x y)) ≡ true
  unfolding as_normalized converted to_normalized
  reversed-normalized = rw (ne_eqb x y (λ e. omega arith), lt-ltb y x reversed)

before-suc : (xs : List ℕ) (i : ℕ) → before_end xs (suc i) ≡ get_or xs i 0
before-suc xs i = let last : suc i - 1 ≡ i = omega arith in rw last at (before-some xs (suc i) (omega arith))

module _ (n : Note) (sound : Sound n) where
  -- neither column falls over any stretch
  pub alignments-on : (i j : ℕ) → i ≤ j → j < length n.normalized → (start_at n i ≤ start_at n j) × (end_at n i ≤ end_at n j)
  alignments-on i j h most =
      let on : (before_end n.starts (suc i) ≤ before_end n.starts (suc j)) × (before_end n.ends (suc i) ≤ before_end n.ends (suc j)) =
      before-le n sound (suc i) (suc j) (omega arith) (omega arith) in (
        omega (arith, on.0, before-suc n.starts i, before-suc n.starts j),
        omega (arith, on.1, before-suc n.ends i, before-suc n.ends j),
      )

  -- an empty range, of either text
  empty-cutting : (range : Range) (k : ℕ) → as_original n.starts n.ends range ≡ Ok (in_original k k) → as_normalized n.starts n.ends range ≡ Ok (in_normalized k k) → k ≤ length n.normalized → Cutting n range
  empty-cutting range k p q most =
      record {
        a = k;
        b = k;
        c = k;
        d = k;
        original_is = p;
        normalized_is = q;
        forward = omega arith;
        inside = most;
        near = inr most;
        original_part = empty-formed n.original k;
        normalized_part = empty-formed n.normalized k;
        original_lies = λ h. absurd (omega arith);
        above = λ i from to. absurd (omega arith);
        below = λ i from to. absurd (omega arith);
      }

  -- a range of the cleaned text
  pub normalized-cutting : (c d : ℕ) → c ≤ d → boundary n.normalized c ≡ true → boundary n.normalized d ≡ true → Cutting n (in_normalized c d)
  normalized-cutting c d h bc bd =
      let most : d ≤ length n.normalized = boundary-most n.normalized d bd in
      le-or-lt d c
      (λ empty.
      let same : c ≡ d = omega arith in
      empty-cutting (in_normalized c d) d
      (original-empty n.starts n.ends c d same ∙ rw same)
      (normalized-own n.starts n.ends c d ∙ rw same) most)
      (λ some.
      let past : d ≤ length n.ends = omega (arith, length-ends n sound) in
      let lies : Between n.original (start_at n c) (end_at n (d - 1)) = expanded-lies n sound c d some past in
      record {
        a = start_at n c;
        b = end_at n (d - 1);
        c = c;
        d = d;
        original_is = original-found n.starts n.ends c d some past ∙ sym (expanded-inside n.starts n.ends c d past);
        normalized_is = normalized-own n.starts n.ends c d;
        forward = h;
        inside = most;
        near = inl (omega (arith, lies.onward, lies.inside));
        original_part = formed-part n.original (start_at n c) (end_at n (d - 1)) (original_formed n sound) lies.from_boundary lies.to_boundary lies.onward;
        normalized_part = formed-part n.normalized c d (normalized-formed n sound) bc bd h;
        original_lies = λ k. lies;
        above = λ i from to. (alignments-on c i from (omega arith)).0;
        below = λ i from to. (alignments-on i (d - 1) (omega arith) (omega arith)).1;
      })

  -- a range of the transcript that has a byte
  module _ (x y : ℕ) (some : x < y) (bx : boundary n.original x ≡ true) (by : boundary n.original y ≡ true) where
    found-cutting : (c d : ℕ) → converted n.starts n.ends (in_original x y) ≡ Ok (in_normalized c d) → ((i : ℕ) → c ≤ i → i < d → x ≤ start_at n i) → ((i : ℕ) → i < d → end_at n i ≤ y) → Cutting n (in_original x y)
    found-cutting c d is above below =
        let out : Outcome n (in_original x y) (Ok (in_normalized c d)) = rw is at (inside n sound (in_original x y)) in
        let lies : Between n.normalized c d = char-range-between _ _ _ (⊎_elim (λ w. absurd (omega (arith, w.0))) (λ l. l) out) in
        record {
          a = x;
          b = y;
          c = c;
          d = d;
          original_is = original-own n.starts n.ends x y;
          normalized_is = normalized-found n.starts n.ends x y ∙ is;
          forward = lies.onward;
          inside = lies.inside;
          near = inl (boundary-most n.original x bx);
          original_part = formed-part n.original x y (original_formed n sound) bx by (omega arith);
          normalized_part = formed-part n.normalized c d (normalized-formed n sound) lies.from_boundary lies.to_boundary lies.onward;
          original_lies = λ h. record { onward = omega arith; inside = boundary-most n.original y by; from_boundary = bx; to_boundary = by };
          above = above;
          below = λ i from to. below i to;
        }

    walked-cutting : (converted n.starts n.ends (in_original x y) ≡ Err Missing → ⊥) → Cutting n (in_original x y)
    walked-cutting found =
        let lead = converted-by-leading n.starts n.ends x y (length-starts n sound ∙ sym (length-ends n sound)) some in
        let k : ℕ = leading n.ends y in
        let most : k ≤ length n.normalized = omega (arith, leading-most n.ends y, length-ends n sound) in
        le-or-lt k 0
        (λ none. absurd (found (lead.none_leads (omega arith))))
        (λ leads.
        first_or_none n.starts n.ends x k
        (λ i w.
        found-cutting i k (lead.from_first i w)
        (λ j from to. omega (arith, w.qualifies.0, (alignments-on i j from (omega arith)).0))
        (λ j to. leading-within n.ends y j to))
        (λ never.
        found-cutting k k (lead.no_first leads never)
        (λ j from to. absurd (omega arith))
        (λ j to. leading-within n.ends y j to)))

-- a range that is valid and has its place in both texts
or-none : (t u w : Bool) → (t || u || w) ≡ false → (t ≡ false) × (u ≡ false) × (w ≡ false)
or-none true u w e = clash true refl e
or-none false true w e = clash true refl e
or-none false false w e = (refl, refl, e)

placed : (o m : Result Range Refusal) (size : ℕ) → unplaced o m size ≡ false → (missing o ≡ false) × (missing m ≡ false) × (end_in m ≤ size)
unfolding unplaced
placed o m size e =
    let all = or-none (missing o) (missing m) (ltb size (end_in m)) e in (all.0, all.1, ltb-false size (end_in m) all.2)

module _ (n : Note) (sound : Sound n) where
  pub cutting : (range : Range) → valid_range n.original n.normalized range ≡ true → slice_missing n range ≡ false → Cutting n range
  unfolding valid_range slice_missing
  cutting (Normalized x y) v m =
      let o : Result Range Refusal = as_original n.starts n.ends (Normalized x y) in
      let all = placed o (as_normalized n.starts n.ends (Normalized x y)) (length n.normalized) m in
      let bx : boundary n.normalized x.0 ≡ true = and_elim_left _ (boundary n.normalized y.0) v in
      let by : boundary n.normalized y.0 ≡ true = and_elim_right (boundary n.normalized x.0) _ v in
      le-or-lt x.0 y.0
      (λ h. normalized-cutting n sound x.0 y.0 h bx by)
      (λ reversed. clash (missing o) (reversed-original n.starts n.ends x.0 y.0 reversed) all.0)
  cutting (Original x y) v m =
      let c : Result Range Refusal = as_normalized n.starts n.ends (Original x y) in
      let all = placed (as_original n.starts n.ends (Original x y)) c (length n.normalized) m in
      let bx : boundary n.original x.0 ≡ true = and_elim_left _ (boundary n.original y.0) v in
      let by : boundary n.original y.0 ≡ true = and_elim_right (boundary n.original x.0) _ v in
      le-or-lt x.0 y.0
      (λ h. le-or-lt y.0 x.0
      (λ empty.
      let same : x.0 ≡ y.0 = omega arith in
      let q = normalized-empty n.starts n.ends x.0 y.0 same in
      let end : end_in c ≡ y.0 = ap end_in q in
      empty-cutting n sound (Original x y) y.0
      (original-own n.starts n.ends x.0 y.0 ∙ rw same)
      (q ∙ rw same)
      (omega (arith, end, all.2)))
      (λ some.
      walked-cutting n sound x.0 y.0 some bx by
      (λ none. clash (missing c) (ap missing (normalized-found n.starts n.ends x.0 y.0 ∙ none)) all.1)))
      (λ reversed. clash (missing c) (reversed-normalized n.starts n.ends x.0 y.0 reversed) all.1)

  -- where a valid range begins in the transcript, found or not
  pub start-near : (most : ℕ) (range : Range) → valid_range n.original n.normalized range ≡ true → length n.original ≤ most → length n.normalized ≤ most → start_in (as_original n.starts n.ends range) ≤ most
  unfolding valid_range
  start-near most (Original x y) v o m =
      rw (original-own n.starts n.ends x.0 y.0) (omega (arith, boundary-most n.original x.0 (and_elim_left _ (boundary n.original y.0) v)))
  start-near most (Normalized x y) v o m =
      let in_text : x.0 ≤ length n.normalized = boundary-most n.normalized x.0 (and_elim_left _ (boundary n.normalized y.0) v) in
      let to-text : y.0 ≤ length n.normalized = boundary-most n.normalized y.0 (and_elim_right (boundary n.normalized x.0) _ v) in
      le-or-lt x.0 y.0
      (λ h. le-or-lt y.0 x.0
      (λ empty. rw (original-empty n.starts n.ends x.0 y.0 (omega arith)) (omega arith))
      (λ some.
      let past : y.0 ≤ length n.ends = omega (arith, length-ends n sound) in
      rw (original-found n.starts n.ends x.0 y.0 some past, ← expanded-inside n.starts n.ends x.0 y.0 past)
      (omega (arith, inside-at n sound x.0 (omega arith)))))
      (λ reversed. rw (reversed-none n.starts n.ends x.0 y.0 reversed) (omega arith))
