-- Laws of `coversFrom` and `covers`: what a covering list says of its first place and of the rest, and a list judged place by place.
use Prim.Native.Nat.{ℕ, ◌≤◌, ◌<◌}
use mathlib.Core.Path.{◌≡◌, ◌∙◌, refl, sym}
use mathlib.Core.Bool.{Bool, true, false, ◌&&◌, not}
use mathlib.Mathlib.Data.Bool.Basic.{and_elim_left, and_elim_right}
use mathlib.Core.List.{List, [], ◌∷◌}
use native.Mathlib.Omega.{arith}
use lib.Dec.{leb, eqb}
use lib.ListN.{length, drop}
use borrow.Author.Tests.{le-leb, lt-leb, eq-eqb, ne_eqb, leb-true, eqb-true, not-true, not-false}
use Rattle.std.specs.Prelude.{Option, Some, None}
use Rattle.buffers.proofs.Booleans.{and-false-l, and_false_r}
use Rattle.utf8.specs.Formed.{boundary}
use Rattle.utf8.proofs.Boundaries.{boundary-most}
use Rattle.pattern.specs.declared.Place.{Place}
use Rattle.pattern.specs.Entries.{entry_at, places_of, whole_list}
use Rattle.pattern.specs.Places.{fits_at, covers_from, covers}
use Rattle.pattern.specs.Placed.{Covering}
use Rattle.pattern.proofs.Entries.{Stepped, entry-step, entry-broken, entries-end}

-- a place that fits after one that ended at `at`
pub record Span (text : List ℕ) (at : ℕ) (p : Place) : Type 0 where
  pub from : p.start.0 ≡ at
  pub onward : at ≤ p.end.0
  pub inside : p.end.0 ≤ length text
  pub stands : boundary text p.end.0 ≡ true

pub fits-span : (text : List ℕ) (at : ℕ) (p : Place) → fits_at text at p ≡ true → Span text at p
unfolding fits_at
fits-span text at p e =
    let two : (eqb p.start.0 at && leb p.start.0 p.end.0) ≡ true = and_elim_left _ (boundary text p.end.0) e in
    let b : boundary text p.end.0 ≡ true = and_elim_right (eqb p.start.0 at && leb p.start.0 p.end.0) _ e in
    let from : p.start.0 ≡ at = eqb-true _ _ (and_elim_left _ (leb p.start.0 p.end.0) two) in
    record {
      from = from;
      onward = omega (arith, from, leb-true p.start.0 p.end.0 (and_elim_right (eqb p.start.0 at) _ two));
      inside = boundary-most text p.end.0 b;
      stands = b;
    }

-- the first place, and the others after it
module _ (text : List ℕ) (at : ℕ) (p : Place) (ps : List Place) (e : covers_from text at (p ∷ ps) ≡ true) where
  pub covers-first : fits_at text at p ≡ true
  unfolding covers_from
  covers-first = and_elim_left _ (covers_from text p.end.0 ps) e

  pub covers-rest : covers_from text p.end.0 ps ≡ true
  unfolding covers_from
  covers-rest = and_elim_right (fits_at text at p) _ e

  pub covers-span : Span text at p
  covers-span = fits-span text at p covers-first

pub covers-none : (text : List ℕ) (at : ℕ) → covers_from text at [] ≡ true → at ≡ length text
unfolding covers_from
covers-none text at e = eqb-true at (length text) e

-- one list of places covers texts of one length
pub covers-length : (s t : List ℕ) (at : ℕ) (ps : List Place) → covers_from s at ps ≡ true → covers_from t at ps ≡ true → length s ≡ length t
covers-length s t at [] c d = sym (covers-none s at c) ∙ covers-none t at d
covers-length s t at (p ∷ ps) c d = covers-length s t p.end.0 ps (covers-rest s at p ps c) (covers-rest t at p ps d)

-- a covering list
module _ (text l : List ℕ) (e : covers text l ≡ true) where
  pub covers-whole : whole_list l ≡ true
  unfolding covers
  covers-whole = and_elim_left _ (covers_from text 0 (places_of l)) e

  pub covers-places : covers_from text 0 (places_of l) ≡ true
  unfolding covers
  covers-places = and_elim_right (whole_list l) _ e

-- the tests of the code
module _ (text : List ℕ) (at : ℕ) (p : Place) where
  pub fits-elsewhere : (p.start.0 ≡ at → ⊥) → false ≡ fits_at text at p
  unfolding fits_at
  fits-elsewhere h = rw (ne_eqb p.start.0 at h)

  pub fits-back : p.end.0 < p.start.0 → false ≡ fits_at text at p
  unfolding fits_at
  fits-back h = sym (and-false-l _ (boundary text p.end.0) (and_false_r (eqb p.start.0 at) _ (lt-leb _ _ h)))

  pub fits_on : {r : Bool} → p.start.0 ≡ at → p.start.0 ≤ p.end.0 → r ≡ boundary text p.end.0 → r ≡ fits_at text at p
  unfolding fits_at
  fits_on is h e = rw (eq-eqb p.start.0 at is, le-leb _ _ h) e

pub none-covered : (text l : List ℕ) → Covering text l 0 0
unfolding covers
none-covered text l = record { same = refl; most = omega arith }

module _ {text l : List ℕ} {at i : ℕ} (j : Covering text l at i) where
  module _ {entry : Option (Place × ℕ)} {p : Place} {next : ℕ} {t : Bool} (is : entry ≡ entry_at l i) (there : entry ≡ Some (p, next)) (fit : t ≡ fits_at text at p) where
    step : covers text l ≡ (whole_list (drop next l) && (t && covers_from text p.end.0 (places_of (drop next l))))
    unfolding covers_from
    step = let s : Stepped l i p next = entry-step l is there in j.same ∙ rw (s.places, s.wholes, ← fit)

    pub next-covered : not t ≡ false → Covering text l p.end.0 next
    next-covered e = record { same = step ∙ rw (not-false t e); most = (entry-step l is there).most }

    pub not_covered : not t ≡ true → false ≡ covers text l
    not_covered e = sym (step ∙ and_false_r (whole_list (drop next l)) _ (and-false-l t _ (not-true t e)))

  pub broken-covered : {entry : Option (Place × ℕ)} → i < length l → entry ≡ entry_at l i → entry ≡ None → false ≡ covers text l
  broken-covered h is e = sym (j.same ∙ and-false-l (whole_list (drop i l)) _ (entry-broken l h is e).1)

  pub all-covered : length l ≤ i → eqb at (length text) ≡ covers text l
  unfolding covers_from
  all-covered h = sym (j.same ∙ rw ((entries-end l h).0, (entries-end l h).1))
