-- Laws of `matchCount` of what is found: counted match by match, and the size that follows from the count.
use Prim.Native.Nat.{ℕ, zero, suc, ◌+◌, ◌*◌, ◌-◌, ◌≤◌, ◌<◌}
use mathlib.Core.Path.{◌≡◌, ◌∙◌, ap, refl, sym}
use mathlib.Core.Bool.{true, false}
use mathlib.Core.List.{List, [], ◌∷◌, ◌++◌}
use native.Mathlib.Nat.{zero-mul, one-mul, add-mul, mul-le-mul, mul-le-mul_right, le-mul_of_pos_right}
use native.Mathlib.Omega.{arith}
use lib.Dec.{leb}
use lib.ListN.{length}
use borrow.Author.Tests.{lt-leb}
use Rattle.buffers.proofs.Cases.{le-or-lt, true-or-false}
use Rattle.pattern.specs.declared.Place.{Place}
use Rattle.find.specs.Matching.{first_from, FirstMatch, place_from, between, matches_from, found_places}
use Rattle.find.specs.Searching.{first_match}
use Rattle.find.proofs.FirstFrom.{first-of-none}
use Rattle.find.proofs.MatchesFrom.{Searched, first-there, match-inside, searched-more, matches-more, matches-end}
use Rattle.find.proofs.FoundPlaces.{between-some, between_none, found-cases, found-whole, searched-first, found_from}
use Rattle.note.specs.Notes.{limit}
use Rattle.replace.specs.Sizes.{place_size, places_size}
use Rattle.redact_note.specs.Redacting.{match_count}
use Rattle.redact_note.specs.Blanks.{Matched, blanked_size}

-- what places hold without the matched ones, and how many of these there are
abbrev Tally : List Place → ℕ → ℕ → Type 0
Tally ps rest count = (places_size 0 ps ≡ rest) × (match_count ps ≡ count)

none-tallied : Tally [] 0 0
unfolding places_size match_count
none-tallied = (refl, refl)

unmatched-tallied : (a e : ℕ) → Tally (place_from a e false ∷ []) (e - a) 0
unfolding places_size place_size match_count
unmatched-tallied a e = (omega arith, refl)

matched-tallied : (a e : ℕ) (ps : List Place) → Tally (place_from a e true ∷ ps) (places_size 0 ps) (1 + match_count ps)
unfolding places_size place_size match_count
matched-tallied a e ps = (omega arith, refl)

append-tallied : (ps qs : List Place) → Tally (ps ++ qs) (places_size 0 ps + places_size 0 qs) (match_count ps + match_count qs)
unfolding places_size match_count
append-tallied [] qs = (omega arith, omega arith)
append-tallied (p ∷ ps) qs = let rest = append-tallied ps qs in (omega (arith, rest.0), omega (arith, rest.1))

between-tallied : (a e : ℕ) → Tally (between a e) (e - a) 0
between-tallied a e =
    le-or-lt e a
    (λ h. (ap (places_size 0) (between_none h) ∙ omega (arith, none-tallied.0), ap match_count (between_none h) ∙ none-tallied.1))
    (λ h. (ap (places_size 0) (between-some h) ∙ (unmatched-tallied a e).0, ap match_count (between-some h) ∙ (unmatched-tallied a e).1))

-- from a position on, up to the next match and after it, or up to the end
module _ {text literal : List ℕ} {at p : ℕ} (s : Searched text literal at p) where
  tally-more : p < length text → Tally (matches_from text literal at) ((p - at) + places_size 0 (matches_from text literal (p + length literal))) (1 + match_count (matches_from text literal (p + length literal)))
  tally-more h =
      let onward : List Place = matches_from text literal (p + length literal) in
      let here = matched-tallied p (p + length literal) onward in
      let all = append-tallied (between at p) (place_from p (p + length literal) true ∷ onward) in (
        ap (places_size 0) (matches-more s h) ∙ omega (arith, all.0, (between-tallied at p).0, here.0),
        ap match_count (matches-more s h) ∙ omega (arith, all.1, (between-tallied at p).1, here.1),
      )

  tally-end : length text ≤ p → Tally (matches_from text literal at) (p - at) 0
  tally-end h = (ap (places_size 0) (matches-end s h) ∙ (between-tallied at p).0, ap match_count (matches-end s h) ∙ (between-tallied at p).1)

-- counting: none yet, one match more, all
pub record Counting (text literal : List ℕ) (count p : ℕ) : Type 0 where
  pub at : ℕ
  pub few : count ≤ at
  pub stands : p < length text → Searched text literal at p
  pub total : p < length text → count + match_count (matches_from text literal at) ≡ match_count (found_places text literal)
  pub done : length text ≤ p → count ≡ match_count (found_places text literal)

counting : {text literal : List ℕ} {count at p : ℕ} → count ≤ at → Searched text literal at p → count + match_count (matches_from text literal at) ≡ match_count (found_places text literal) → Counting text literal count p
counting {at = at} few s total =
    record { at = at; few = few; stands = λ h. s; total = λ h. total; done = λ h. omega (arith, total, (tally-end s h).1) }

pub none-counted : {text literal : List ℕ} {p : ℕ} → p ≡ first_match text literal → Counting text literal 0 p
none-counted {text} {literal} {p} is =
    le-or-lt (length text) p
    (λ far. le-or-lt p (length text)
    (λ near.
    let whole : match_count (found_places text literal) ≡ 0 = ap match_count (found-whole text literal (sym is ∙ omega arith)) ∙ (unmatched-tallied 0 (length text)).1 in
    record { at = 0; few = omega arith; stands = λ h. absurd (omega arith); total = λ h. absurd (omega arith); done = λ h. sym whole })
    (λ past. absurd (omega (arith, (first-there (searched-first text literal is (λ e. absurd (omega arith)))).most))))
    (λ inside.
    let other : p ≡ length text → ⊥ = λ e. absurd (omega arith) in
    counting (omega arith) (searched-first text literal is other) (omega (arith, ap match_count (found_from text literal is other))))

module _ {text literal : List ℕ} {count p : ℕ} (c : Counting text literal count p) (h : p < length text) where
  pub match-within : (0 < length literal) × (p + length literal ≤ length text)
  match-within = ((c.stands h).some, match-inside (c.stands h) h)

  pub count_small : count ≤ length text
  count_small = omega (arith, c.few, (c.stands h).most)

  pub next-counted : {q : ℕ} → q ≡ first_from text literal (p + length literal) → Counting text literal (count + 1) q
  next-counted next =
      let s = c.stands h in
      counting (omega (arith, c.few, s.some, (first-there s).from)) (searched-more s h next) (omega (arith, c.total h, (tally-more s h).1))

  pub next-onward : {q : ℕ} → q ≡ first_from text literal (p + length literal) → p < q
  next-onward next = omega (arith, (c.stands h).some, (first-there (searched-more (c.stands h) h next)).from)

-- a content of `contentLen` bytes for each match
sizes-tallied : (content_len : ℕ) (ps : List Place) → places_size content_len ps ≡ places_size 0 ps + match_count ps * content_len
unfolding places_size place_size match_count
sizes-tallied content_len [] = omega arith
sizes-tallied content_len (p ∷ ps) =
    true-or-false p.matched
    (λ t. rw t (omega (arith, sizes-tallied content_len ps, add-mul 1 (match_count ps) content_len)))
    (λ f. rw f (omega (arith, sizes-tallied content_len ps, add-mul 0 (match_count ps) content_len)))

-- the matches and what they leave are the text
module _ (text literal : List ℕ) where
  abbrev Whole : List Place → ℕ → Type 0
  Whole ps size = places_size 0 ps + match_count ps * length literal ≡ size

  rest-whole : (n at p : ℕ) → length text - at < n → Searched text literal at p → Whole (matches_from text literal at) (length text - at)
  rest-whole zero at p h s = absurd (omega arith)
  rest-whole (suc n) at p h s =
      let f : FirstMatch text literal at p = first-there s in
      le-or-lt (length text) p
      (λ k. let t = tally-end s k in rw (t.0, t.1) (omega (arith, f.most, k)))
      (λ k.
      let inside = match-inside s k in
      let onward : List Place = matches_from text literal (p + length literal) in
      let rest = rest-whole n (p + length literal) _ (omega (arith, s.some, f.from, inside)) (searched-more s k refl) in
      let t = tally-more s k in
      rw (t.0, t.1) (omega (arith, rest, add-mul 1 (match_count onward) (length literal), f.from, inside)))

  found-total : Whole (found_places text literal) (length text)
  found-total =
      found-cases text literal
      (λ one. let t = unmatched-tallied 0 (length text) in rw (one, t.0, t.1) (omega arith))
      (λ some all. rw all (omega (arith, rest-whole (suc (length text)) 0 (first_from text literal 0) (omega arith) (record { some = some; most = omega arith; next = refl }))))

  pub found-size : (content_len : ℕ) {count : ℕ} → count ≡ match_count (found_places text literal) → blanked_size (length text) count (length literal) content_len ≡ places_size content_len (found_places text literal)
  unfolding blanked_size
  found-size content_len {count} is = rw is (omega (arith, found-total, sizes-tallied content_len (found_places text literal)))

  -- an empty literal has no match, and each match of another one has a byte
  few : {count : ℕ} → count ≡ match_count (found_places text literal) → count ≤ length text
  few {count} is =
      le-or-lt (length literal) 0
      (λ none. omega (arith, is ∙ ap match_count (found-whole text literal (first-of-none text literal (omega arith))), (unmatched-tallied 0 (length text)).1))
      (λ some.
      let whole : places_size 0 (found_places text literal) + count * length literal ≡ length text = rw is found-total in
      omega (arith, whole, le-mul_of_pos_right count some))

  pub found-matched : {count : ℕ} → length text ≤ limit → count ≡ match_count (found_places text literal) → Matched (length text) count (length literal)
  found-matched {count} short is =
      let whole : places_size 0 (found_places text literal) + count * length literal ≡ length text = rw is found-total in
      record { short = short; few = few is; inside = omega (arith, whole) }

-- the size that fits
module _ (content_len : ℕ) {size count literal_len room : ℕ} (m : Matched size count literal_len) (small : room ≤ limit) where
  pub none-fits : count ≡ 0 → leb size room ≡ leb (blanked_size size count literal_len content_len) room
  unfolding blanked_size
  none-fits none =
      let same : (size - count * literal_len) + count * content_len ≡ size = rw none (omega (arith, zero-mul literal_len, zero-mul content_len)) in
      rw same

  pub wide-over : (count ≡ 0 → ⊥) → room < content_len → false ≡ leb (blanked_size size count literal_len content_len) room
  unfolding blanked_size
  wide-over some over =
      sym (lt-leb _ room (omega (arith, one-mul content_len, mul-le-mul_right {m = 1} {n = count} content_len (omega arith))))

  pub product_small : content_len ≤ room → count * content_len ≤ limit * limit
  product_small h = mul-le-mul {n₁ = count} {m₁ = content_len} {n₂ = limit} {m₂ = limit} (omega (arith, m.few, m.short)) (omega arith)
