-- Laws of `entry_at`, `places_of` and `wholeList`: a list is read entry by entry, and nobody needs to know how long one is.
use Prim.Native.Nat.{ℕ, zero, suc, ◌+◌, ◌-◌, ◌*◌, ◌≤◌, ◌<◌}
use mathlib.Core.Path.{◌≡◌, ◌∙◌, refl, sym}
use mathlib.Core.Bool.{Bool, true, false, cond, ◌&&◌, ◌||◌, or-true}
use mathlib.Mathlib.Data.Bool.Basic.{and_elim_left, and_elim_right}
use mathlib.Core.List.{List, [], ◌∷◌}
use native.Mathlib.Omega.{arith}
use lib.Dec.{leb, eqb}
use lib.ListN.{length, get_or, drop, length-drop}
use lib.Seq.{drop-drop, get_or-drop}
use borrow.Author.Tests.{le-leb, lt-leb, leb-true, eq-eqb, ne_eqb}
use Rattle.std.specs.Prelude.{Option, Some, None}
use Rattle.buffers.proofs.Cases.{none-some, some-parts, le-or-lt, true-or-false, clash}
use Rattle.buffers.proofs.Booleans.{and_false_r}
use Rattle.numbers.specs.Entries.{read_from}
use Rattle.numbers.proofs.Entries.{read_step, read-end}
use Rattle.note.specs.declared.NormalizedByte.{NormalizedByte}
use Rattle.pattern.specs.declared.Place.{Place}
use Rattle.pattern.specs.Entries.{position_at, place_at, entry_at, of_entry, entry_size, places_of, whole_list, most_places, MostPlaces}

-- whether an entry is a place: its command is known, and its operands are not cut
abbrev test : List ℕ → ℕ → Bool
test l i = (eqb (get_or l i 0) 11 || eqb (get_or l i 0) 12) && leb (i + 5) (length l)

-- by what the code tests
module _ (l : List ℕ) (i : ℕ) where
  pub entry-cut : length l < i + 5 → None ≡ entry_at l i
  unfolding entry_at
  entry-cut h = rw (and_false_r (eqb (get_or l i 0) 11 || eqb (get_or l i 0) 12) _ (lt-leb (i + 5) (length l) h))

  pub entry-unknown : (get_or l i 0 ≡ 11 → ⊥) → (get_or l i 0 ≡ 12 → ⊥) → None ≡ entry_at l i
  unfolding entry_at
  entry-unknown not-11 not-12 = rw (ne_eqb (get_or l i 0) 11 not-11, ne_eqb (get_or l i 0) 12 not-12)

  known : 11 ≤ get_or l i 0 → get_or l i 0 ≤ 12 → (eqb (get_or l i 0) 11 || eqb (get_or l i 0) 12) ≡ true
  known low high =
      le-or-lt (get_or l i 0) 11
      (λ k. rw (eq-eqb (get_or l i 0) 11 (omega arith)))
      (λ k. rw (eq-eqb (get_or l i 0) 12 (omega arith)) (or-true (eqb (get_or l i 0) 11)))

  pub entry_known : i + 5 ≤ length l → (eqb (get_or l i 0) 11 || eqb (get_or l i 0) 12) ≡ true → entry_at l i ≡ Some (place_at l i, i + 5)
  unfolding entry_at
  entry_known h t = rw (t, le-leb (i + 5) (length l) h)

  pub entry_place : {start end : NormalizedByte} → i + 5 ≤ length l → 11 ≤ get_or l i 0 → get_or l i 0 ≤ 12 → start ≡ position_at l (i + 1) → end ≡ position_at l (i + 3) → Some (record { start = start; end = end; matched = eqb (get_or l i 0) 12 }, i + 5) ≡ entry_at l i
  unfolding place_at
  entry_place h low high s e = rw (entry_known h (known low high), s, e)

  -- and what an entry tells
  pub told : {p : Place} {next : ℕ} → entry_at l i ≡ Some (p, next) → (test l i ≡ true) × ((place_at l i ≡ p) × (i + 5 ≡ next))
  unfolding entry_at
  told {p} {next} e =
      true-or-false (test l i)
      (λ t. let z : Some (place_at l i, i + 5) ≡ Some (p, next) = rw t at e in (t, some-parts z))
      (λ f. none-some (rw f at e))

  told-broken : entry_at l i ≡ None → test l i ≡ false
  unfolding entry_at
  told-broken e =
      true-or-false (test l i)
      (λ t. let z : Some (place_at l i, i + 5) ≡ None = rw t at e in let y : ◌≡◌ {A = ℕ} 0 1 = cc in absurd (omega arith))
      (λ f. f)

-- the entry at i is the first one of what is from i on
position-drop : (l : List ℕ) (i k : ℕ) → position_at (drop i l) k ≡ position_at l (i + k)
unfolding position_at
position-drop l i k =
    let two : k + 2 - k ≡ i + k + 2 - (i + k) = omega arith in
    rw (drop-drop k i l, two)

entry-drop : (l : List ℕ) (i : ℕ) → i < length l → entry_at (drop i l) 0 ≡ cond (test l i) (Some (place_at l i, 5)) None
unfolding entry_at place_at
entry-drop l i h =
    let z : i + 0 ≡ i = omega arith in
    let long : length (drop i l) ≡ length l - i = length-drop i l in
    rw (get_or-drop i l 0 0, position-drop l i 1, position-drop l i 3, z)
    (le-or-lt (i + 5) (length l)
    (λ k. rw (le-leb (i + 5) (length l) k, le-leb 5 (length (drop i l)) (omega arith)))
    (λ k. rw (lt-leb (i + 5) (length l) k, lt-leb 5 (length (drop i l)) (omega arith))))

-- what the entry at the front of a list puts before what is read after it
abbrev before : List ℕ → List Place → List Place
before l ps = of_entry [] (λ p next. p ∷ ps) (entry_at l 0)

abbrev too : List ℕ → Bool → Bool
too l rest = of_entry false (λ p next. rest) (entry_at l 0)

-- from an entry on that is k bytes away
abbrev places_from : ℕ → List ℕ → List Place
places_from k l = read_from entry_size before [] k l

abbrev whole_from : ℕ → List ℕ → Bool
whole_from k l = read_from entry_size too true k l

-- THE STEP: from the place at i to where the next one begins
pub record Stepped (l : List ℕ) (i : ℕ) (p : Place) (next : ℕ) : Type 0 where
  pub onward : i < next
  pub most : next ≤ length l
  pub places : places_of (drop i l) ≡ p ∷ places_of (drop next l)
  pub wholes : whole_list (drop i l) ≡ whole_list (drop next l)

pub entry-step : (l : List ℕ) {i : ℕ} {e : Option (Place × ℕ)} {p : Place} {next : ℕ} → e ≡ entry_at l i → e ≡ Some (p, next) → Stepped l i p next
unfolding places_of whole_list
entry-step l {i} {e} {p} {next} is at =
    let known = told l i (sym is ∙ at) in
    let room : i + 5 ≤ length l = leb-true _ _ (and_elim_right (eqb (get_or l i 0) 11 || eqb (get_or l i 0) 12) _ known.0) in
    let first : entry_at (drop i l) 0 ≡ Some (p, 5) = entry-drop l i (omega arith) ∙ rw (known.0, known.1.0) in
    let long : entry_size (drop i l) ≡ 5 = rw first in
    let ends : next ≡ i + 5 = omega (arith, known.1.1) in
    record {
      onward = omega (arith, known.1.1);
      most = omega (arith, known.1.1);
      places = read_step entry_size before [] l (omega arith) long (omega arith) ends ∙ rw first;
      wholes = read_step entry_size too true l (omega arith) long (omega arith) ends ∙ rw first;
    }

-- an entry that is no place
pub entry-broken : (l : List ℕ) {i : ℕ} {e : Option (Place × ℕ)} → i < length l → e ≡ entry_at l i → e ≡ None → (places_of (drop i l) ≡ []) × (whole_list (drop i l) ≡ false)
unfolding places_of whole_list
entry-broken l {i} h is at =
    let first : entry_at (drop i l) 0 ≡ None = entry-drop l i h ∙ rw (told-broken l i (sym is ∙ at)) in
    let one : entry_size (drop i l) ≡ 1 = rw first in
    (read_step entry_size before [] l h one (omega arith) refl ∙ rw first, read_step entry_size too true l h one (omega arith) refl ∙ rw first)

-- the list's end
pub entries-end : (l : List ℕ) {i : ℕ} → length l ≤ i → (places_of (drop i l) ≡ []) × (whole_list (drop i l) ≡ true)
unfolding places_of whole_list
entries-end l h = (read-end entry_size before [] l h, read-end entry_size too true l h)

-- each place has five bytes
places-few : (k : ℕ) (l : List ℕ) → 5 * length (places_from k l) ≤ length l - k
unfolding read_from entry_at
places-few k [] = omega arith
places-few zero (x ∷ l) =
    true-or-false (test (x ∷ l) 0)
    (λ t. rw t (omega (arith, places-few 4 l, leb-true 5 (length (x ∷ l)) (and_elim_right (eqb x 11 || eqb x 12) _ t))))
    (λ f. rw f (omega arith))
places-few (suc k) (x ∷ l) = omega (arith, places-few k l)

pub places-most : (l : List ℕ) {n : ℕ} → n ≡ most_places l → length (places_of l) ≤ n
unfolding places_of most_places
places-most l is = omega (arith, places-few 0 l)

-- A LIST WITHOUT A BROKEN ENTRY has five bytes for each place, and its places stand by index
whole-size : (k : ℕ) (l : List ℕ) → whole_from k l ≡ true → k ≤ length l → 5 * length (places_from k l) + k ≡ length l
unfolding read_from entry_at
whole-size k [] w h = omega arith
whole-size zero (x ∷ l) w h =
    true-or-false (test (x ∷ l) 0)
    (λ t.
    let rest : whole_from 4 l ≡ true = rw t at w in
    rw t (omega (arith, whole-size 4 l rest (omega (arith, leb-true 5 (length (x ∷ l)) (and_elim_right (eqb x 11 || eqb x 12) _ t))))))
    (λ f. clash false (rw f at w) refl)
whole-size (suc k) (x ∷ l) w h = omega (arith, whole-size k l w (omega arith))

whole-count : (l : List ℕ) → whole_list l ≡ true → 5 * length (places_of l) ≡ length l
unfolding places_of whole_list
whole-count l w = omega (arith, whole-size 0 l w (omega arith))

pub places-exact : (l : List ℕ) {n : ℕ} → n ≡ most_places l → whole_list l ≡ true → length (places_of l) ≡ n
unfolding most_places
places-exact l is w = omega (arith, whole-count l w)

pub most-places : MostPlaces
most-places l = (places-most l refl, places-exact l refl)

broken-at : (l : List ℕ) (i : ℕ) → test l i ≡ false → entry_at l i ≡ None
unfolding entry_at
broken-at l i f = rw f

whole-step : (l : List ℕ) (i : ℕ) → i < length l → whole_list (drop i l) ≡ true → Stepped l i (place_at l i) (i + 5)
whole-step l i h w =
    true-or-false (test l i)
    (λ t. entry-step l refl (entry_known l i (leb-true (i + 5) (length l) (and_elim_right (eqb (get_or l i 0) 11 || eqb (get_or l i 0) 12) _ t)) (and_elim_left _ (leb (i + 5) (length l)) t)))
    (λ f. clash (whole_list (drop i l)) w (entry-broken l h refl (broken-at l i f)).1)

record Indexed (l : List ℕ) (k : ℕ) : Type 0 where
  places : drop k (places_of l) ≡ places_of (drop (5 * k) l)
  unbroken : whole_list (drop (5 * k) l) ≡ true

indexed : (l : List ℕ) → whole_list l ≡ true → (k : ℕ) → k ≤ length (places_of l) → Indexed l k
indexed l w zero h = record { places = refl; unbroken = w }
indexed l w (suc k) h =
    let so_far : Indexed l k = indexed l w k (omega arith) in
    let st : Stepped l (5 * k) (place_at l (5 * k)) (5 * k + 5) = whole-step l (5 * k) (omega (arith, whole-count l w)) so_far.unbroken in
    let far : 5 * k + 5 ≡ 5 * suc k = omega arith in
    let one : k + 1 ≡ suc k = omega arith in
    record {
      places = rw (← far, ← one, ← drop-drop 1 k (places_of l), so_far.places, st.places);
      unbroken = rw far at (sym st.wholes ∙ so_far.unbroken);
    }

module _ (l : List ℕ) (w : whole_list l ≡ true) (k : ℕ) (h : k < length (places_of l)) where
  pub place_inside : 5 * k + 5 ≤ length l
  place_inside = omega (arith, whole-count l w)

  pub place-there : {start end : NormalizedByte} → start ≡ position_at l (5 * k + 1) → end ≡ position_at l (5 * k + 3) → drop k (places_of l) ≡ record { start = start; end = end; matched = eqb (get_or l (5 * k) 0) 12 } ∷ drop (k + 1) (places_of l)
  unfolding place_at
  place-there s e =
      let here : Indexed l k = indexed l w k (omega arith) in
      let next : Indexed l (k + 1) = indexed l w (k + 1) (omega arith) in
      let st : Stepped l (5 * k) (place_at l (5 * k)) (5 * k + 5) = whole-step l (5 * k) (omega (arith, whole-count l w)) here.unbroken in
      let far : 5 * (k + 1) ≡ 5 * k + 5 = omega arith in
      rw (here.places, next.places, far, s, e) st.places
