-- Laws of `placesSize` of what is found: match by match, and beside a content no longer than the literal.
use Prim.Native.Nat.{ℕ, zero, suc, ◌+◌, ◌-◌, ◌≤◌, ◌<◌, min}
use mathlib.Core.Path.{◌≡◌, ◌∙◌, ap, refl, sym}
use mathlib.Core.Bool.{true, false}
use mathlib.Core.List.{List, [], ◌∷◌, ◌++◌}
use native.Mathlib.Omega.{arith}
use lib.Dec.{leb}
use lib.ListN.{length}
use borrow.Author.Tests.{le-leb, lt-leb}
use Rattle.buffers.proofs.Cases.{le-or-lt}
use Rattle.note.specs.Notes.{limit}
use Rattle.pattern.specs.declared.Place.{Place}
use Rattle.find.specs.Matching.{first_from, FirstMatch, place_from, between, matches_from, found_places}
use Rattle.find.specs.Searching.{first_match}
use Rattle.find.proofs.MatchesFrom.{Searched, first-there, match-inside, searched-more, matches-more, matches-end}
use Rattle.find.proofs.FoundPlaces.{between-some, between_none, found-cases, found-whole, searched-first, found_from}
use Rattle.replace.specs.Sizes.{place_size, places_size}

sizes-append : (content_len : ℕ) (ps qs : List Place) → places_size content_len (ps ++ qs) ≡ places_size content_len ps + places_size content_len qs
unfolding places_size
sizes-append content_len [] qs = omega arith
sizes-append content_len (p ∷ ps) qs = omega (arith, sizes-append content_len ps qs)

sizes-none : (content_len : ℕ) → places_size content_len [] ≡ 0
unfolding places_size
sizes-none content_len = refl

pub sizes-unmatched : (content_len a e : ℕ) → places_size content_len (place_from a e false ∷ []) ≡ e - a
unfolding places_size place_size
sizes-unmatched content_len a e = omega arith

sizes-matched : (content_len a e : ℕ) (ps : List Place) → places_size content_len (place_from a e true ∷ ps) ≡ content_len + places_size content_len ps
unfolding places_size place_size
sizes-matched content_len a e ps = refl

sizes-between : (content_len a e : ℕ) → places_size content_len (between a e) ≡ e - a
sizes-between content_len a e =
    le-or-lt e a
    (λ h. ap (places_size content_len) (between_none h) ∙ omega (arith, sizes-none content_len))
    (λ h. ap (places_size content_len) (between-some h) ∙ sizes-unmatched content_len a e)

-- from a position on, up to the next match and after it, or up to the end
module _ {text literal : List ℕ} (content_len : ℕ) {at p : ℕ} (s : Searched text literal at p) where
  pub sizes-more : p < length text → places_size content_len (matches_from text literal at) ≡ (p - at) + (content_len + places_size content_len (matches_from text literal (p + length literal)))
  sizes-more h =
      ap (places_size content_len) (matches-more s h) ∙ sizes-append content_len (between at p) _
      ∙ omega (arith, sizes-between content_len at p, sizes-matched content_len p (p + length literal) (matches_from text literal (p + length literal)))

  pub sizes-end : length text ≤ p → places_size content_len (matches_from text literal at) ≡ p - at
  sizes-end h = ap (places_size content_len) (matches-end s h) ∙ sizes-between content_len at p

-- measured: the matches before `at` are counted in `total`, and p is the next one or the end
pub record Sizing (text literal : List ℕ) (content_len total at p : ℕ) : Type 0 where
  pub onward : at ≤ p
  pub small : total ≤ limit + 1
  pub more : p < length text → Searched text literal at p × (min (limit + 1) (total + places_size content_len (matches_from text literal at)) ≡ min (limit + 1) (places_size content_len (found_places text literal)))
  pub end : length text ≤ p → min (limit + 1) (total + (p - at)) ≡ min (limit + 1) (places_size content_len (found_places text literal))

sizing : {text literal : List ℕ} {content_len total at p : ℕ} → total ≤ limit + 1 → Searched text literal at p
    → min (limit + 1) (total + places_size content_len (matches_from text literal at)) ≡ min (limit + 1) (places_size content_len (found_places text literal))
    → Sizing text literal content_len total at p
sizing {content_len = content_len} small s e =
    record { onward = (first-there s).from; small = small; more = λ h. (s, e); end = λ h. omega (arith, sizes-end content_len s h) }

pub none-sized : {text literal : List ℕ} {content_len p : ℕ} → p ≡ first_match text literal → Sizing text literal content_len 0 0 p
none-sized {text} {literal} {content_len} {p} is =
    le-or-lt (length text) p
    (λ far. le-or-lt p (length text)
    (λ near.
    let all : p ≡ length text = omega arith in
    let whole : places_size content_len (found_places text literal) ≡ length text - 0 = ap (places_size content_len) (found-whole text literal (sym is ∙ all)) ∙ sizes-unmatched content_len 0 (length text) in
    record { onward = omega arith; small = omega arith; more = λ h. absurd (omega arith); end = λ h. omega (arith, whole) })
    (λ past. absurd (omega (arith, (first-there (searched-first text literal is (λ e. absurd (omega arith)))).most))))
    (λ inside.
    let other : p ≡ length text → ⊥ = λ e. absurd (omega arith) in
    sizing (omega arith) (searched-first text literal is other) (omega (arith, ap (places_size content_len) (found_from text literal is other))))

module _ {text literal : List ℕ} {content_len total at p : ℕ} (z : Sizing text literal content_len total at p) where
  pub more-sized : {a b q : ℕ} → p < length text → a ≡ min (limit + 1) (total + (p - at)) → b ≡ min (limit + 1) (a + content_len) → q ≡ first_from text literal (p + length literal) → Sizing text literal content_len b (p + length literal) q
  more-sized h is sum next =
      let s : Searched text literal at p = (z.more h).0 in
      sizing (omega arith) (searched-more s h next) (omega (arith, (z.more h).1, sizes-more content_len s h))

  pub all-sized : {r : ℕ} → length text ≤ p → r ≡ min (limit + 1) (total + (p - at)) → r ≡ min (limit + 1) (places_size content_len (found_places text literal))
  all-sized h is = is ∙ z.end h

  -- the next match lies within the text
  pub match-within : p < length text → (0 < length literal) × (p + length literal ≤ length text)
  match-within h = ((z.more h).0.some, match-inside (z.more h).0 h)

-- a content no longer than the literal makes no text longer
module _ (text literal : List ℕ) (content_len : ℕ) (literal_len : content_len ≤ length literal) where
  sizes-rest : (n at p : ℕ) → length text - at < n → Searched text literal at p → places_size content_len (matches_from text literal at) ≤ length text - at
  sizes-rest zero at p h s = absurd (omega arith)
  sizes-rest (suc n) at p h s =
      let f : FirstMatch text literal at p = first-there s in
      le-or-lt (length text) p
      (λ last. omega (arith, sizes-end content_len s last, f.most))
      (λ next.
      let inside = match-inside s next in
      let rest = sizes-rest n (p + length literal) _ (omega (arith, s.some, f.from, inside)) (searched-more s next refl) in
      omega (arith, sizes-more content_len s next, rest, f.from, inside))

  sizes-most : places_size content_len (found_places text literal) ≤ length text
  sizes-most =
      found-cases text literal
      (λ one. omega (arith, ap (places_size content_len) one ∙ sizes-unmatched content_len 0 (length text)))
      (λ some all.
      omega (arith, ap (places_size content_len) all, sizes-rest (suc (length text)) 0 _ (omega arith) (record { some = some; most = omega arith; next = refl })))

  pub text-enough : (room : ℕ) → length text ≤ room → true ≡ leb (places_size content_len (found_places text literal)) room
  text-enough room h = sym (le-leb (places_size content_len (found_places text literal)) room (omega (arith, sizes-most)))

-- the size that was measured says whether the true one fits
pub measured-enough : (size room : ℕ) {m : ℕ} → m ≡ min (limit + 1) size → room ≤ limit → leb m room ≡ leb size room
measured-enough size room {m} is few =
    le-or-lt size room
    (λ h. rw (le-leb size room h, le-leb m room (omega arith)))
    (λ h. rw (lt-leb size room h, lt-leb m room (omega arith)))
