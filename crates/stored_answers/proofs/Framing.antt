-- Laws of `leadingNumber` and `field_of`: a number at an index, a field more, and the field that is reached.
use Prim.Native.Nat.{ℕ, suc, ◌+◌, ◌-◌, ◌≤◌, ◌<◌, min}
use mathlib.Core.Path.{◌≡◌, ◌∙◌, ap, refl, sym}
use mathlib.Core.Bool.{Bool, false, ◌&&◌}
use mathlib.Core.List.{List}
use native.Mathlib.Omega.{arith}
use native.Mathlib.Decide.{dec_le}
use native.Mathlib.Nat.{lt_of_not-le}
use lib.Dec.{eqb}
use lib.ListN.{length, take, drop, length-drop, drop_of_length-le}
use lib.Seq.{drop-drop, drop-length, take_all}
use borrow.Author.Tests.{le-leb, lt-leb, ne_eqb, eq-eqb}
use Rattle.buffers.specs.Splice.{part}
use Rattle.numbers.specs.LittleEndian.{value_of}
use Rattle.stored_answers.specs.Framing.{leading_number, first, after_field, field_of, is_number}

pub number_cut : (s : List ℕ) (at : ℕ) → length s < at + 4 → 0 ≡ leading_number (drop at s)
unfolding leading_number
number_cut s at h = simp (length-drop, lt-leb 4 (length s - at) (omega arith)) refl

pub number-whole : (s : List ℕ) (at : ℕ) {n : ℕ} → n ≡ value_of (part s at (at + 4)) → at + 4 ≤ length s → n ≡ leading_number (drop at s)
unfolding leading_number
number-whole s at is h =
    let four : at + 4 - at ≡ 4 = omega arith in
    is ∙ rw (four, length-drop, le-leb 4 (length s - at) (omega arith))

-- whether a field is a number, by its length and then by its value
pub no_number : {f : List ℕ} (s : List ℕ) (n : ℕ) → f ≡ s → (length f ≡ 4 → ⊥) → false ≡ is_number s n
unfolding is_number
no_number s n is h = rw (ne_eqb (length s) 4 (λ e. h (ap length is ∙ e)))

pub a-number : {f : List ℕ} {m : ℕ} (s : List ℕ) (n : ℕ) → f ≡ s → length f ≡ 4 → m ≡ leading_number f → eqb m n ≡ is_number s n
unfolding is_number
a-number s n is h here = rw (eq-eqb (length s) 4 (sym (ap length is) ∙ h), here, is)

-- two tests, each by itself
pub both : {a b x y : Bool} → a ≡ x → b ≡ y → (a && b) ≡ (x && y)
both p q i = p i && q i

-- a place that is kept within the list
pub drop_min : (s : List ℕ) (n : ℕ) → drop (min n (length s)) s ≡ drop n s
drop_min s n =
    elim (dec_le n (length s)) [
      | yes h ↦ let all : min n (length s) ≡ n = omega arith in rw all refl
      | no h ↦ let past : length s < n = lt_of_not-le h in
          let end : min n (length s) ≡ length s = omega arith in
          let long : length s ≤ n = omega arith in
          rw (end, drop-length s) (sym (drop_of_length-le s long))
    ]

take_min : (s : List ℕ) (from n : ℕ) → from ≤ length s → take (min (from + n) (length s) - from) (drop from s) ≡ take n (drop from s)
take_min s from n w =
    elim (dec_le (from + n) (length s)) [
      | yes h ↦ let all : min (from + n) (length s) - from ≡ n = omega arith in rw all refl
      | no h ↦ let past : length s < from + n = lt_of_not-le h in
          let long : length (drop from s) ≡ length s - from = length-drop from s in
          take_all (min (from + n) (length s) - from) (drop from s) (omega arith) ∙ sym (take_all n (drop from s) (omega arith))
    ]

-- i fields of the index were passed over, and the next begins at `at`
pub record Reached (s : List ℕ) (index at i : ℕ) : Type 0 where
  pub same : field_of index s ≡ field_of (index - i) (drop at s)
  pub within : at ≤ length s
  pub most : i ≤ index

pub none-reached : (s : List ℕ) (index : ℕ) → Reached s index 0 0
none-reached s index = record { same = (let all : index - 0 ≡ index = omega arith in rw all refl); within = omega arith; most = omega arith }

-- past a field's length, and past the field
skip-length : (s : List ℕ) (at from : ℕ) → from ≡ min (at + 4) (length s) → drop from s ≡ drop 4 (drop at s)
skip-length s at from f = ap (λ k. drop k s) f ∙ drop_min s (at + 4) ∙ sym (drop-drop 4 at s)

skip-field : (s : List ℕ) (at from n to : ℕ) → from ≡ min (at + 4) (length s) → to ≡ min (from + n) (length s) → drop to s ≡ drop n (drop 4 (drop at s))
skip-field s at from n to f t =
    ap (λ k. drop k s) t ∙ drop_min s (from + n) ∙ sym (drop-drop n from s) ∙ ap (drop n) (skip-length s at from f)

module _ {s : List ℕ} {index at i : ℕ} (r : Reached s index at i) where
  pub next-reached : {from n to : ℕ} → i < index → from ≡ min (at + 4) (length s) → n ≡ leading_number (drop at s) → to ≡ min (from + n) (length s) → Reached s index to (i + 1)
  unfolding field_of after_field
  next-reached {from} {n} {to} h f is t =
      let step : index - i ≡ suc (index - (i + 1)) = omega arith in
      let here : drop (leading_number (drop at s)) (drop 4 (drop at s)) ≡ drop to s = rw (← is) (sym (skip-field s at from n to f t)) in
      record {
        same = r.same ∙ rw step (ap (field_of (index - (i + 1))) here);
        within = omega arith;
        most = omega arith;
      }

  pub field-reached : {from n to : ℕ} → index ≤ i → from ≡ min (at + 4) (length s) → n ≡ leading_number (drop at s) → to ≡ min (from + n) (length s) → take (to - from) (drop from s) ≡ field_of index s
  unfolding field_of first
  field-reached {from} {n} {to} h f is t =
      let none : index - i ≡ 0 = omega (arith, r.most) in
      let here : take (to - from) (drop from s) ≡ take n (drop 4 (drop at s)) =
      rw t (take_min s from n (omega arith)) ∙ ap (take n) (skip-length s at from f) in
      here ∙ rw is (sym (r.same ∙ rw none refl))
