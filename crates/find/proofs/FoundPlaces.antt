-- Laws of `foundPlaces`: by the first match, covering, writable, and at most so many.
use Prim.Native.Nat.{ℕ, zero, suc, ◌+◌, ◌*◌, ◌-◌, ◌/◌, ◌≤◌, ◌<◌}
use mathlib.Core.Path.{◌≡◌, ◌∙◌, ap, refl, sym}
use mathlib.Core.Bool.{Bool, true, false, ◌||◌}
use mathlib.Mathlib.Data.Bool.Basic.{and_intro, and_elim_left, and_elim_right}
use mathlib.Core.List.{List, [], ◌∷◌, ◌++◌, append-nil}
use native.Mathlib.Nat.{add-mul, div-mul-le_self, le-div_iff_mul-le}
use native.Mathlib.Omega.{arith}
use lib.Dec.{eqb}
use lib.ListN.{length, length-append}
use borrow.Author.Tests.{eq-eqb, ne_eqb, le-leb, lt-ltb, le-ltb}
use Rattle.buffers.proofs.Cases.{le-or-lt, true-or-false}
use Rattle.utf8.specs.Formed.{well_formed, boundary}
use Rattle.utf8.proofs.Boundaries.{boundary-length}
use Rattle.note.specs.Notes.{limit}
use Rattle.pattern.specs.declared.Place.{Place}
use Rattle.pattern.specs.Places.{fits_at, covers_from, covers}
use Rattle.pattern.specs.Encoding.{writable, all_writable}
use Rattle.pattern.proofs.Encoding.{read_back, room-enough}
use Rattle.find.specs.Matching.{first_from, FirstMatch, place_from, between, matches_from, found_places}
use Rattle.find.specs.Finding.{found_bytes, FoundCovers, FoundRead, LongestList}
use Rattle.find.specs.Searching.{first_match}
use Rattle.find.proofs.Occurs.{starts_on, ends_on}
use Rattle.find.proofs.FirstFrom.{first-of-none, first-of-some}
use Rattle.find.proofs.MatchesFrom.{Searched, first-there, match-inside, searched-more, matches-more, matches-end}

pub between-some : {a e : ℕ} → a < e → between a e ≡ place_from a e false ∷ []
unfolding between
between-some {a} {e} h = rw (lt-ltb a e h)

pub between_none : {a e : ℕ} → e ≤ a → between a e ≡ []
unfolding between
between_none {a} {e} h = rw (le-ltb a e h)

pub between-most : (a e : ℕ) → length (between a e) ≤ 1
between-most a e =
    le-or-lt e a (λ h. omega (arith, ap length (between_none h))) (λ h. omega (arith, ap length (between-some h)))

-- what is found, by the first match
module _ (text literal : List ℕ) where
  found-one : (eqb (length text) 0 || eqb (length literal) 0) ≡ true → found_places text literal ≡ place_from 0 (length text) false ∷ []
  unfolding found_places
  found-one h = rw h

  found-matches : 0 < length text → 0 < length literal → found_places text literal ≡ matches_from text literal 0
  unfolding found_places
  found-matches t l =
      rw (ne_eqb (length text) 0 (λ none. omega arith), ne_eqb (length literal) 0 (λ none. omega arith))

  pub found-whole : first_match text literal ≡ length text → found_places text literal ≡ place_from 0 (length text) false ∷ []
  found-whole e =
      le-or-lt (length text) 0
      (λ h. found-one (rw (eq-eqb (length text) 0 (omega arith))))
      (λ t. le-or-lt (length literal) 0
      (λ h. found-one (rw (ne_eqb (length text) 0 (λ none. omega arith), eq-eqb (length literal) 0 (omega arith))))
      (λ l.
      let s : Searched text literal 0 (length text) = record { some = l; most = omega arith; next = sym e ∙ first-of-some text literal l } in
      found-matches t l ∙ matches-end s (omega arith) ∙ between-some t))

  module _ {p : ℕ} (is : p ≡ first_match text literal) (met : p ≡ length text → ⊥) where
    pub searched-first : Searched text literal 0 p
    searched-first =
        le-or-lt (length literal) 0
        (λ h. absurd (met (is ∙ first-of-none text literal (omega arith))))
        (λ some. record { some = some; most = omega arith; next = is ∙ first-of-some text literal some })

    pub found_from : found_places text literal ≡ matches_from text literal 0
    found_from =
        le-or-lt (length text) 0
        (λ h. absurd (met (omega (arith, (first-there searched-first).most))))
        (λ t. found-matches t searched-first.some)

-- a law of what is found is one of a single place and one of all matches
module _ (text literal : List ℕ) {P : Type 0} where
  pub found-cases : (found_places text literal ≡ place_from 0 (length text) false ∷ [] → P) → (0 < length literal → found_places text literal ≡ matches_from text literal 0 → P) → P
  found-cases one all =
      true-or-false (eqb (length text) 0 || eqb (length literal) 0)
      (λ e. one (found-one text literal e))
      (λ e.
      le-or-lt (length text) 0
      (λ h. one (found-one text literal (rw (eq-eqb (length text) 0 (omega arith)))))
      (λ t. le-or-lt (length literal) 0
      (λ h. one (found-one text literal (rw (ne_eqb (length text) 0 (λ none. omega arith), eq-eqb (length literal) 0 (omega arith)))))
      (λ l. all l (found-matches text literal t l))))

from_start : (text literal : List ℕ) → 0 < length literal → Searched text literal 0 (first_from text literal 0)
from_start text literal some = record { some = some; most = omega arith; next = refl }

-- covering
covers_one : (text : List ℕ) → covers_from text 0 (place_from 0 (length text) false ∷ []) ≡ true
unfolding covers_from fits_at
covers_one text = simp (le-leb 0 (length text) (omega arith), boundary-length text, eq-eqb (length text) (length text) refl)

covers-between : (text : List ℕ) (a e : ℕ) (ps : List Place) → a ≤ e → boundary text e ≡ true → covers_from text e ps ≡ true → covers_from text a (between a e ++ ps) ≡ true
unfolding between covers_from fits_at
covers-between text a e ps h b c =
    le-or-lt e a
    (λ k. let is : a ≡ e = omega arith in rw (le-ltb a e k, is) c)
    (λ k. simp (lt-ltb a e k, eq-eqb a a refl, le-leb a e h, b, c))

covers-matched : (text : List ℕ) (p e : ℕ) (ps : List Place) → p ≤ e → boundary text e ≡ true → covers_from text e ps ≡ true → covers_from text p (place_from p e true ∷ ps) ≡ true
unfolding covers_from fits_at
covers-matched text p e ps h b c = simp (eq-eqb p p refl, le-leb p e h, b, c)

covers-end : (text : List ℕ) (p : ℕ) → p ≡ length text → covers_from text p [] ≡ true
unfolding covers_from
covers-end text p end = eq-eqb p (length text) end

module _ (text literal : List ℕ) (t : well_formed text ≡ true) (l : well_formed literal ≡ true) where
  pub covers-matches : (n at p : ℕ) → length text - at < n → Searched text literal at p → covers_from text at (matches_from text literal at) ≡ true
  covers-matches zero at p h s = absurd (omega arith)
  covers-matches (suc n) at p h s =
      let f : FirstMatch text literal at p = first-there s in
      le-or-lt (length text) p
      (λ k.
      let end : p ≡ length text = omega (arith, f.most) in
      rw (matches-end s k) (rw (append-nil (between at p)) at (covers-between text at p [] f.from (rw end (boundary-length text)) (covers-end text p end))))
      (λ k.
      rw (matches-more s k)
      (covers-between text at p _ f.from (starts_on text literal p s.some t l (f.occurs k))
      (covers-matched text p _ _ (omega arith) (ends_on text literal p s.some t l (f.occurs k))
      (covers-matches n (p + length literal) _ (omega (arith, f.from, s.some, match-inside s k)) (searched-more s k refl)))))

  pub places-cover : covers_from text 0 (found_places text literal) ≡ true
  places-cover =
      found-cases text literal
      (λ one. rw one (covers_one text))
      (λ some all. rw all (covers-matches (suc (length text)) 0 _ (omega arith) (from_start text literal some)))

-- positions of two bytes
pub place-writable : {q : Place} {a e : ℕ} {matched : Bool} → q ≡ place_from a e matched → a ≤ limit → e ≤ limit → writable q ≡ true
unfolding writable
place-writable {a = a} {e = e} is h k = rw (is, lt-ltb a (limit + 1) (omega arith), lt-ltb e (limit + 1) (omega arith))

writable-append : (ps qs : List Place) → all_writable ps ≡ true → all_writable qs ≡ true → all_writable (ps ++ qs) ≡ true
unfolding all_writable
writable-append [] qs h k = k
writable-append (p ∷ ps) qs h k = and_intro {a = writable p} {b = all_writable (ps ++ qs)} (and_elim_left _ (all_writable ps) h) (writable-append ps qs (and_elim_right (writable p) _ h) k)

writable-one : (a e : ℕ) (matched : Bool) (ps : List Place) → a ≤ limit → e ≤ limit → all_writable ps ≡ true → all_writable (place_from a e matched ∷ ps) ≡ true
unfolding all_writable
writable-one a e matched ps h k w = and_intro {a = writable (place_from a e matched)} {b = all_writable ps} (place-writable refl h k) w

writable-none : all_writable [] ≡ true
unfolding all_writable
writable-none = refl

writable-between : (a e : ℕ) → a ≤ limit → e ≤ limit → all_writable (between a e) ≡ true
writable-between a e h k =
    le-or-lt e a
    (λ no. rw (between_none no) writable-none)
    (λ some. rw (between-some some) (writable-one a e false [] h k writable-none))

module _ (text literal : List ℕ) (short : length text ≤ limit) where
  writable-matches : (n at p : ℕ) → length text - at < n → Searched text literal at p → all_writable (matches_from text literal at) ≡ true
  writable-matches zero at p h s = absurd (omega arith)
  writable-matches (suc n) at p h s =
      let f : FirstMatch text literal at p = first-there s in
      le-or-lt (length text) p
      (λ k. rw (matches-end s k) (writable-between at p (omega (arith, s.most)) (omega (arith, f.most))))
      (λ k.
      let inside = match-inside s k in
      rw (matches-more s k)
      (writable-append (between at p) _ (writable-between at p (omega (arith, s.most)) (omega (arith, f.most)))
      (writable-one p (p + length literal) true _ (omega arith) (omega (arith, inside))
      (writable-matches n (p + length literal) _ (omega (arith, f.from, s.some, inside)) (searched-more s k refl)))))

  places-writable : all_writable (found_places text literal) ≡ true
  places-writable =
      found-cases text literal
      (λ one. rw one (writable-one 0 (length text) false [] (omega arith) short writable-none))
      (λ some all. rw all (writable-matches (suc (length text)) 0 _ (omega arith) (from_start text literal some)))

pub found-read : FoundRead
unfolding found_bytes
found-read text literal short = (read_back (found_places text literal) (places-writable text literal short)).0

pub found-covers : FoundCovers
unfolding found_bytes covers
found-covers text literal t l short =
    let read = read_back (found_places text literal) (places-writable text literal short) in
    rw (read.0, read.1) (places-cover text literal t l)

-- the longest list: m bytes less, one match less
one_less : (a b m : ℕ) → 0 < m → a + m ≤ b → a / m + 1 ≤ b / m
one_less a b m some h =
    (le-div_iff_mul-le some).1 (omega (arith, add-mul (a / m) 1 m, div-mul-le_self a m))

module _ (text literal : List ℕ) where
  count-from : (n at p : ℕ) → length text - at < n → Searched text literal at p → length (matches_from text literal at) ≤ 2 * ((length text - at) / length literal) + 1
  count-from zero at p h s = absurd (omega arith)
  count-from (suc n) at p h s =
      let f : FirstMatch text literal at p = first-there s in
      le-or-lt (length text) p
      (λ k. omega (arith, ap length (matches-end s k), between-most at p))
      (λ k.
      let inside = match-inside s k in
      let rest = count-from n (p + length literal) _ (omega (arith, s.some, f.from, inside)) (searched-more s k refl) in
      let less = one_less (length text - (p + length literal)) (length text - at) (length literal) s.some (omega (arith, f.from, inside)) in
      omega (arith, ap length (matches-more s k) ∙ length-append (between at p) _, between-most at p, rest, less))

  pub count-longest : 0 < length literal → length (found_places text literal) ≤ 2 * (length text / length literal) + 1
  count-longest some =
      found-cases text literal
      (λ one. omega (arith, ap length one))
      (λ more all.
      let z : length text - 0 ≡ length text = omega arith in
      rw all (rw z at (count-from (suc (length text)) 0 _ (omega arith) (from_start text literal some))))

pub longest-list : LongestList
unfolding found_bytes
longest-list text literal some = room-enough (found_places text literal) _ (count-longest text literal some)
