-- Laws of `expandable`, `expands` and `answerAt`: the answer of the range at i, by two reads and as the single conversion gives it.
use Prim.Native.Nat.{ℕ, ◌+◌, ◌-◌, ◌≤◌, ◌<◌}
use mathlib.Core.Path.{◌≡◌, ◌∙◌, ap, refl, sym}
use mathlib.Core.Bool.{Bool, true, ◌&&◌}
use mathlib.Core.List.{List}
use native.Mathlib.Omega.{arith}
use lib.Dec.{leb, ltb}
use lib.ListN.{length, get_or}
use borrow.Author.Tests.{le-leb, lt-ltb, le-ltb, ltb-true, leb-true, ne_eqb}
use mathlib.Mathlib.Data.Bool.Basic.{and_intro, and_elim_left, and_elim_right}
use Rattle.std.specs.Prelude.{Result, Ok}
use Rattle.buffers.proofs.Cases.{le-or-lt}
use Rattle.convert.specs.declared.OffsetReferential.{OffsetReferential}
use Rattle.convert.specs.declared.OffsetReferential.TheVariants.{Original, Normalized}
use Rattle.convert.specs.declared.Range.{Range}
use Rattle.convert.specs.Converting.{in_original, range_of, expanded, to_original, converted}
use Rattle.convert_list.specs.ConvertList.{answer_at}
use Rattle.convert_list.specs.TwoReads.{expandable, expands, Expanding}
use Rattle.note.specs.declared.Refusal.{Refusal}

pub expandable-original : {side : OffsetReferential} (n : ℕ) → side ≡ Original → 0 ≡ expandable side n
unfolding expandable
expandable-original n is = rw is

pub expandable-normalized : {side : OffsetReferential} (n : ℕ) → side ≡ Normalized → n ≡ expandable side n
unfolding expandable
expandable-normalized n is = rw is

pub expandable-most : (side : OffsetReferential) (n : ℕ) → expandable side n ≤ n
unfolding expandable
expandable-most Original n = omega arith
expandable-most Normalized n = omega arith

module _ (a b n : ℕ) (so : expands a b n ≡ true) where
  pub has-byte : a < b
  unfolding expands
  has-byte = ltb-true a b (and_elim_left (ltb a b) (leb b n) so)

  pub has_end : b ≤ n
  unfolding expands
  has_end = leb-true b n (and_elim_right (ltb a b) (leb b n) so)

expands-side : (side : OffsetReferential) (a b n : ℕ) → expands a b (expandable side n) ≡ true → side ≡ Normalized
unfolding expandable
expands-side Original a b n e = absurd (omega (arith, has-byte a b 0 e, has_end a b 0 e))
expands-side Normalized a b n e = refl

expands-reads : (starts ends : List ℕ) (side : OffsetReferential) (a b : ℕ) → expands a b (expandable side (length ends)) ≡ true → Ok (in_original (get_or starts a 0) (get_or ends (b - 1) 0)) ≡ converted starts ends (range_of side a b)
unfolding converted to_original expanded range_of
expands-reads starts ends side a b so =
    let n : ℕ = expandable side (length ends) in
    let byte : a < b = has-byte a b n so in
    let end : b ≤ length ends = omega (arith, has_end a b n so, expandable-most side (length ends)) in
    rw (
      expands-side side a b (length ends) so,
      ne_eqb a b (λ e. absurd (omega arith)),
      le-ltb b a (omega arith),
      le-leb b (length ends) end,
    )

-- a block of ranges
pub record ExpandTo (from to : List ℕ) (n i : ℕ) : Type 0 where
  pub so_far : (k : ℕ) → k < i → expands (get_or from k 0) (get_or to k 0) n ≡ true

pub none-expand : {from to : List ℕ} {n : ℕ} → ExpandTo from to n 0
none-expand = record { so_far = λ k h. absurd (omega arith) }

pub one-expands : {from to : List ℕ} {n i : ℕ} {ok r : Bool} → (ok ≡ true → ExpandTo from to n i) → r ≡ expands (get_or from i 0) (get_or to i 0) n → (ok && r) ≡ true → ExpandTo from to n (i + 1)
one-expands {i = i} {ok} {r} before e t =
    record {
      so_far = λ k h.
          le-or-lt i k
          (λ last. let z : k ≡ i = omega arith in rw z (sym e ∙ and_elim_right ok r t))
          (λ low. (before (and_elim_left ok r t)).so_far k low);
    }

pub all-expanding : {from to : List ℕ} {n i : ℕ} → ExpandTo from to n i → length from ≤ i → Expanding from to n
all-expanding w done = record { each = λ k h. w.so_far k (omega arith) }

-- within fewer bytes, within more
pub expanding-most : {from to : List ℕ} {n m : ℕ} → Expanding from to n → n ≤ m → Expanding from to m
unfolding expands
expanding-most {from} {to} {n} {m} w few =
    record {
      each = λ k h.
          and_intro
          (lt-ltb (get_or from k 0) (get_or to k 0) (has-byte (get_or from k 0) (get_or to k 0) n (w.each k h)))
          (le-leb (get_or to k 0) m (omega (arith, has_end (get_or from k 0) (get_or to k 0) n (w.each k h))));
    }

module _ (starts ends : List ℕ) (side : OffsetReferential) (from to : List ℕ) (i : ℕ) where
  pub answer-reads : {len y w : ℕ} → len ≡ expandable side (length ends) → expands (get_or from i 0) (get_or to i 0) len ≡ true → y ≡ get_or starts (get_or from i 0) 0 → w ≡ get_or ends (get_or to i 0 - 1) 0 → Ok (in_original y w) ≡ answer_at (converted starts ends) side from to i
  unfolding answer_at
  answer-reads l so p q = rw (p, q) (expands-reads starts ends side (get_or from i 0) (get_or to i 0) (rw l at so))

  pub answer-converted : {range : Range} {answer : Result Range Refusal} → range ≡ range_of side (get_or from i 0) (get_or to i 0) → answer ≡ converted starts ends range → answer ≡ answer_at (converted starts ends) side from to i
  unfolding answer_at
  answer-converted is e = e ∙ ap (converted starts ends) is
