-- The note of a fresh text converts every range between boundaries to itself.
use Prim.Native.Nat.{ℕ, suc, ◌-◌, ◌≤◌, ◌<◌}
use mathlib.Core.Path.{◌≡◌, ◌∙◌, refl, sym}
use mathlib.Core.Bool.{true}
use mathlib.Core.List.{List}
use native.Mathlib.Omega.{arith}
use lib.ListN.{length, get_or}
use borrow.Author.Tests.{le-leb, le-ltb, eq-eqb, ne_eqb}
use Rattle.std.specs.Prelude.{Ok}
use Rattle.buffers.proofs.Cases.{le-or-lt, clash}
use Rattle.utf8.specs.Formed.{well_formed, continues, boundary}
use Rattle.utf8.proofs.Boundaries.{boundary-most, boundary-begins, Between, char-range-between}
use Rattle.note.specs.Notes.{start_at, end_at}
use Rattle.utf8.specs.CharRanges.{char_start, char_end}
use Rattle.note.specs.Starting.{starting}
use Rattle.utf8.proofs.CharRanges.{Ranged, ranged, char_start-begins, char_end-begins}
use Rattle.note.proofs.Starting.{length-starting-starts, length-starting-ends, starting-start, starting-end, starting-accepted}
use Rattle.convert.specs.declared.Range.{Range}
use Rattle.convert.specs.declared.Range.TheVariants.{Original, Normalized}
use Rattle.convert.specs.Converting.{in_original, in_normalized, start_of, end_of, expanded, to_original, to_normalized, converted, convert_offsets}
use Rattle.convert.specs.Leading.{leading}
use Rattle.convert.specs.Inside.{unconverted, ConvertedItself}
use Rattle.convert.proofs.Answered.{answered-accepted, converted-missing}
use Rattle.convert.proofs.Leading.{leading-most, leading-within, leading-past, converted-by-leading}

module _ (s : List ℕ) (p : well_formed s ≡ true) where
  module _ (a b : ℕ) (at_a : boundary s a ≡ true) (at_b : boundary s b ≡ true) (some : a < b) where
    -- a character that begins before b ends there or before
    ends-within : (i : ℕ) → i < b → char_end s i ≤ b
    ends-within i h =
        let r : Ranged s i = ranged s i p (omega (arith, boundary-most s b at_b)) in
        le-or-lt (char_end s i) b (λ t. t)
        (λ past. clash (continues (get_or s b 0)) (r.rest b (omega arith) past) (boundary-begins s b at_b))

    leading-itself : leading (starting s).ends b ≡ b
    leading-itself =
        let ends = (starting s).ends in
        let k : ℕ = leading ends b in
        let most : k ≤ length s = omega (arith, leading-most ends b, length-starting-ends s) in
        le-or-lt b k
        (λ high. le-or-lt k b
        (λ low. omega arith)
        (λ over.
        let h : b < length s = omega arith in
        absurd (omega (arith, leading-within ends b b over, starting-end s b h, (ranged s b p h).past))))
        (λ low.
        let h : k < length s = omega (arith, boundary-most s b at_b) in
        absurd (omega (arith, leading-past ends b (omega (arith, length-starting-ends s)), starting-end s k h, ends-within k low)))

    walked-itself : converted (starting s).starts (starting s).ends (in_original a b) ≡ Ok (in_normalized a b)
    walked-itself =
        let h : a < length s = omega (arith, boundary-most s b at_b) in
        let start : char_start s a ≡ a = char_start-begins s a (boundary-begins s a at_a) in
        let by = converted-by-leading (starting s).starts (starting s).ends a b (length-starting-starts s ∙ sym (length-starting-ends s)) some in
        (rw leading-itself at by.from_first) a
        (record {
          below = some;
          qualifies = (
            omega (arith, starting-start s a h),
            λ e. omega (arith, starting-start s a h, starting-end s a h, (ranged s a p h).past),
          );
          none_before = λ j less q. omega (arith, q.0, starting-start s j (omega arith), (ranged s j p (omega arith)).from);
        })

    expanded-itself : expanded (starting s).starts (starting s).ends a b ≡ Ok (in_original a b)
    unfolding expanded
    expanded-itself =
        let most : b ≤ length s = boundary-most s b at_b in
        let next : suc (b - 1) ≡ b = omega arith in
        let start : start_at (starting s) a ≡ a = starting-start s a (omega arith) ∙ char_start-begins s a (boundary-begins s a at_a) in
        let end : end_at (starting s) (b - 1) ≡ b =
        starting-end s (b - 1) (omega arith)
        ∙ char_end-begins s (b - 1) (ranged s (b - 1) p (omega arith)) (rw next (boundary-begins s b at_b)) ∙ next in
        rw (le-leb b (length (starting s).ends) (omega (arith, length-starting-ends s)), start, end)

  itself : (range : Range) → boundary s (start_of range) ≡ true → boundary s (end_of range) ≡ true → start_of range ≤ end_of range → converted (starting s).starts (starting s).ends range ≡ Ok (unconverted range)
  unfolding converted to_normalized to_original
  itself (Original a b) at_a at_b on =
      le-or-lt b.0 a.0
      (λ t. rw (eq-eqb a.0 b.0 (omega arith)))
      (λ some. walked-itself a.0 b.0 at_a at_b some)
  itself (Normalized a b) at_a at_b on =
      le-or-lt b.0 a.0
      (λ t. rw (eq-eqb a.0 b.0 (omega arith)))
      (λ some.
      let differ : a.0 ≡ b.0 → ⊥ = λ e. omega arith in
      rw (ne_eqb a.0 b.0 differ, le-ltb b.0 a.0 on, expanded-itself a.0 b.0 at_a at_b some))

pub converted-itself : ConvertedItself
unfolding convert_offsets
converted-itself most s p h range lies =
    let between : Between s (start_of range) (end_of range) = char-range-between s (start_of range) (end_of range) lies in
    sym (answered-accepted most (starting s) _ refl (starting-accepted most s p h) (converted-missing _ _ range))
    ∙ itself s p range between.from_boundary between.to_boundary between.onward
