-- Laws of `walked`, turn by turn: what it says from the byte at i on, with the places found so far, is what it says from the start.
use Prim.Native.Nat.{ℕ, zero, suc, ◌+◌, ◌-◌, ◌≤◌, ◌<◌}
use mathlib.Core.Path.{◌≡◌, ◌∙◌, refl, sym}
use mathlib.Core.Bool.{true}
use mathlib.Core.List.{List}
use mathlib.Core.Logic.{inl, ⊎_elim}
use native.Mathlib.Numerals.{add-one}
use native.Mathlib.Omega.{arith}
use lib.Dec.{ltb}
use lib.ListN.{length, get_or, drop, drop_of_length-le}
use lib.Seq.{drop-cons}
use borrow.Author.Tests.{le-leb, lt-leb, lt-ltb, ltb-true, eq-eqb, ne_eqb}
use Rattle.note.specs.declared.NormalizedByte.{NormalizedByte}
use Rattle.convert.specs.declared.Places.{Places}
use Rattle.convert.specs.declared.Places.TheVariants.{Neither, Last, Both}
use Rattle.convert.specs.Converting.{first_places, places_after, walk_from, walked}
use Rattle.convert.specs.Blocks.{OrderedColumns, settled, Block}

-- the byte at i where no first place is found yet, by the two tests
module _ (from i s e : ℕ) where
  pub begun-before : s < from → Last (record { 0 = i + 1 }) ≡ first_places from i s e
  unfolding first_places
  begun-before h = rw (lt-leb from s h)

  pub begun-narrow : from ≤ s → s ≡ e → Last (record { 0 = i + 1 }) ≡ first_places from i s e
  unfolding first_places
  begun-narrow h is = rw (le-leb from s h, eq-eqb s e is)

  pub begun-wide : from ≤ s → (s ≡ e → ⊥) → Both (record { 0 = i }) (record { 0 = i + 1 }) ≡ first_places from i s e
  unfolding first_places
  begun-wide h is = rw (le-leb from s h, ne_eqb s e is)

-- one step, by what was found before it
pub stepped-both : (from i s e : ℕ) {found : Places} {first last : NormalizedByte} → found ≡ Both first last → Both first (record { 0 = i + 1 }) ≡ places_after from i s e found
unfolding places_after
stepped-both from i s e is = rw is

pub stepped-last : (from i s e : ℕ) {found r : Places} {last : NormalizedByte} → found ≡ Last last → r ≡ first_places from i s e → r ≡ places_after from i s e found
unfolding places_after
stepped-last from i s e is b = rw is b

pub stepped-neither : (from i s e : ℕ) {found r : Places} → found ≡ Neither → r ≡ first_places from i s e → r ≡ places_after from i s e found
unfolding places_after
stepped-neither from i s e is b = rw is b

-- the test on the last of a block, by what was found before it
module _ (from s : ℕ) {found : Places} where
  pub settled-both : {first last : NormalizedByte} → found ≡ Both first last → true ≡ settled from s found
  unfolding settled
  settled-both is = rw is

  pub settled-last : {last : NormalizedByte} → found ≡ Last last → ltb s from ≡ settled from s found
  unfolding settled
  settled-last is = rw is

  pub settled-neither : found ≡ Neither → ltb s from ≡ settled from s found
  unfolding settled
  settled-neither is = rw is

pub single-block : {starts ends : List ℕ} {from to : ℕ} {found : Places} {i : ℕ} → i < length ends → get_or ends i 0 ≤ to → Block starts ends from to found i i
single-block more inside =
    record { on = omega arith; inside = more; walks = inside; single_or_settled = inl refl }

pub record Walk (starts ends : List ℕ) (from to : ℕ) (found : Places) (i : ℕ) : Type 0 where
  pub most : i ≤ length ends
  pub same : walked starts ends from to ≡ walk_from i (drop i starts) (drop i ends) from to found

pub none-walked : {starts ends : List ℕ} {from to : ℕ} → Walk starts ends from to Neither 0
unfolding walked
none-walked = record { most = omega arith; same = refl }

one-walked : {most : ℕ} {starts ends : List ℕ} {from to : ℕ} {found next : Places} {i : ℕ} → OrderedColumns most starts ends
    → Walk starts ends from to found i → i < length ends → get_or ends i 0 ≤ to → next ≡ places_after from i (get_or starts i 0) (get_or ends i 0) found
    → Walk starts ends from to next (i + 1)
unfolding walk_from
one-walked {starts = starts} {ends = ends} {i = i} k w more inside is =
    record {
      most = omega arith;
      same = w.same ∙ rw (drop-cons starts i 0 (omega arith), drop-cons ends i 0 more, le-leb _ _ inside, is, add-one i);
    }

-- of two alignments neither of which is a first place, the second is walked as if the first were not there
stepped-twice : (from i x u j y v : ℕ) (found : Places) → x ≤ y → settled from y found ≡ true → places_after from j y v (places_after from i x u found) ≡ places_after from j y v found
unfolding places_after first_places settled
stepped-twice from i x u j y v (Both first last) h t = refl
stepped-twice from i x u j y v (Last last) h t = rw (lt-leb from x (omega (arith, ltb-true y from t)))
stepped-twice from i x u j y v Neither h t = rw (lt-leb from x (omega (arith, ltb-true y from t)))

settled_before : (from x y : ℕ) (found : Places) → x ≤ y → settled from y found ≡ true → settled from x found ≡ true
unfolding settled
settled_before from x y (Both first last) h t = refl
settled_before from x y (Last last) h t = lt-ltb x from (omega (arith, ltb-true y from t))
settled_before from x y Neither h t = lt-ltb x from (omega (arith, ltb-true y from t))

-- a block is walked: by one alignment more at each turn of the induction
module _ {most : ℕ} {starts ends : List ℕ} {from to : ℕ} {found : Places} {i : ℕ} (columns : OrderedColumns most starts ends) (w : Walk starts ends from to found i) where
  -- the places found where the alignment at j is walked
  abbrev at : ℕ → Places → Places
  at j before = places_after from j (get_or starts j 0) (get_or ends j 0) before

  several-walked : (k : ℕ) → i + k < length ends → get_or ends (i + k) 0 ≤ to → settled from (get_or starts (i + k) 0) found ≡ true → Walk starts ends from to (at (i + k) found) (i + k + 1)
  several-walked zero more inside t =
      let here : i + 0 ≡ i = omega arith in
      rw here (one-walked columns w (omega arith) (rw here at inside) refl)
  several-walked (suc k) more inside t =
      let next : i + suc k ≡ suc (i + k) = omega arith in
      let here : suc (i + k) < length ends = omega arith in
      let ends_on : get_or ends (i + k) 0 ≤ get_or ends (suc (i + k)) 0 = columns.ends_forward (i + k) here in
      let starts_on : get_or starts (i + k) 0 ≤ get_or starts (suc (i + k)) 0 = columns.starts_forward (i + k) here in
      let within : get_or ends (suc (i + k)) 0 ≤ to = rw next at inside in
      let before : Walk starts ends from to (at (i + k) found) (i + k + 1) = several-walked k (omega arith) (omega arith) (settled_before _ _ _ found starts_on (rw next at t)) in
      rw next
      (one-walked columns (rw (add-one (i + k)) at before) here within
      (sym (stepped-twice _ _ _ _ _ _ _ found starts_on (rw next at t))))

  pub block_walked : {next : Places} {j : ℕ} → Block starts ends from to found i j → next ≡ at j found → Walk starts ends from to next (j + 1)
  block_walked {j = j} b is =
      let far : i + (j - i) ≡ j = omega arith in
      rw is
      (⊎_elim
      (λ (one : j ≡ i). rw one (one-walked columns w (omega arith) (rw one at b).walks refl))
      (λ (t : settled from (get_or starts j 0) found ≡ true). rw far at (several-walked (j - i) (omega arith) (rw far b.walks) (rw far t)))
      b.single_or_settled)

-- the first alignment whose end exceeds the target's
pub walk-left : {most : ℕ} {starts ends : List ℕ} {from to : ℕ} {found : Places} {i : ℕ} → OrderedColumns most starts ends → Walk starts ends from to found i → i < length ends → to < get_or ends i 0 → found ≡ walked starts ends from to
unfolding walk_from
walk-left {starts = starts} {ends = ends} {i = i} k w more past =
    sym (w.same ∙ rw (drop-cons starts i 0 (omega arith), drop-cons ends i 0 more, lt-leb _ _ past))

-- no alignment is left
pub walk-done : {most : ℕ} {starts ends : List ℕ} {from to : ℕ} {found : Places} {i : ℕ} → OrderedColumns most starts ends → Walk starts ends from to found i → length ends ≤ i → found ≡ walked starts ends from to
unfolding walk_from
walk-done {starts = starts} {i = i} k w all =
    let short : length starts ≤ i = omega arith in
    sym (w.same ∙ rw (drop_of_length-le starts short))
