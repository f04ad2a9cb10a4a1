-- Laws of `foundBytes`: counted and written match by match, and what finding answers by the checks that it has passed.
use Prim.Native.Nat.{ℕ, ◌+◌, ◌*◌, ◌/◌, ◌≤◌, ◌<◌}
use mathlib.Core.Path.{◌≡◌, ◌∙◌, ap, refl, sym}
use mathlib.Core.Bool.{Bool, true, false, not}
use mathlib.Core.List.{List, [], ◌∷◌, ◌++◌, append_assoc, append-nil}
use native.Mathlib.Omega.{arith}
use lib.Dec.{leb}
use lib.ListN.{length, length-append}
use borrow.Author.Tests.{le-leb, not-true, not-false, leb-true, leb-false}
use Rattle.std.specs.Prelude.{Ok, Err}
use Rattle.buffers.specs.Splice.{overlay, Laid}
use Rattle.buffers.proofs.Cases.{le-or-lt}
use Rattle.buffers.proofs.Splice.{Laying, splice-nil, splice-overlay, none-laid, piece-laid, laying-size, all_laid}
use Rattle.note.specs.declared.Refusal.{Refusal}
use Rattle.note.specs.declared.Refusal.TheVariants.{NoRoom, IllFormed}
use Rattle.note.specs.Refusals.{also, verdict, after, unless_refused, Verdict, Accepted}
use Rattle.note.specs.Notes.{limit}
use Rattle.note.specs.Faults.{text_faults, string_faults, room_faults}
use Rattle.note.specs.Rank.{up_to}
use Rattle.note.proofs.FirstMet.{refused-then, accepted-then}
use Rattle.note.proofs.Faults.{no_room, enough-room}
use Rattle.pattern.specs.declared.Place.{Place}
use Rattle.pattern.specs.Encoding.{place_bytes, encoded_places, room_for}
use Rattle.pattern.proofs.Encoding.{length-encoded}
use Rattle.find.specs.Matching.{first_from, place_from, between, matches_from, found_places}
use Rattle.find.specs.Finding.{found_bytes, find_faults, Finding}
use Rattle.find.specs.Searching.{first_match}
use Rattle.find.proofs.FirstFrom.{first-of-none}
use Rattle.find.proofs.MatchesFrom.{Searched, first-there, searched-more, matches-more, matches-end}
use Rattle.find.proofs.FoundPlaces.{between-some, between_none, between-most, found-whole, searched-first, found_from, longest-list}

-- the bytes of places
pub length-room : (ps : List Place) → length (encoded_places ps) ≡ room_for (length ps)
unfolding room_for
length-room ps = length-encoded ps

encoded-append : (ps qs : List Place) → encoded_places (ps ++ qs) ≡ encoded_places ps ++ encoded_places qs
unfolding encoded_places
encoded-append [] qs = refl
encoded-append (p ∷ ps) qs = rw (encoded-append ps qs) (sym (append_assoc (place_bytes p) (encoded_places ps) (encoded_places qs)))

encoded-one : (p : Place) → encoded_places (p ∷ []) ≡ place_bytes p
unfolding encoded_places
encoded-one p = append-nil (place_bytes p)

-- the room for what is found
module _ (text literal : List ℕ) (room : ℕ) where
  pub fits_one : {size : ℕ} → length literal ≡ 0 → size ≡ room_for 1 → leb size room ≡ leb (length (found_bytes text literal)) room
  unfolding found_bytes
  fits_one none is =
      rw (is, found-whole text literal (first-of-none text literal none), length-room (place_from 0 (length text) false ∷ []))

  pub fits-longest : {size : ℕ} → 0 < length literal → size ≡ room_for (2 * (length text / length literal) + 1) → size ≤ room → true ≡ leb (length (found_bytes text literal)) room
  fits-longest some is h = sym (le-leb (length (found_bytes text literal)) room (omega (arith, longest-list text literal some)))

  pub fits-counted : {count size : ℕ} → count ≡ length (found_places text literal) → size ≡ room_for count → leb size room ≡ leb (length (found_bytes text literal)) room
  unfolding found_bytes
  fits-counted is size = rw (size, is, length-room (found_places text literal))

-- counting: none yet, one match more, all
pub record CountedPlaces (text literal : List ℕ) (count at p : ℕ) : Type 0 where
  pub stands : Searched text literal at p
  pub total : count + length (matches_from text literal at) ≡ length (found_places text literal)
  pub small : count ≤ at + at

pub none-counted : {text literal : List ℕ} {p : ℕ} → p ≡ first_match text literal → (p ≡ length text → ⊥) → CountedPlaces text literal 0 0 p
none-counted {text} {literal} is met =
    record { stands = searched-first text literal is met; total = omega (arith, ap length (found_from text literal is met)); small = omega arith }

module _ {text literal : List ℕ} {count at p b : ℕ} (m : CountedPlaces text literal count at p) (is : b ≡ length (between at p)) where
  pub count-bounds : b ≤ 1
  count-bounds = omega (arith, between-most at p)

  pub next-counted : {q : ℕ} → p < length text → q ≡ first_from text literal (p + length literal) → CountedPlaces text literal (count + (b + 1)) (p + length literal) q
  next-counted h e =
      record {
        stands = searched-more m.stands h e;
        total = omega (arith, m.total, ap length (matches-more m.stands h) ∙ length-append (between at p) _);
        small = le-or-lt p at
            (λ k. omega (arith, m.small, m.stands.some, (first-there m.stands).from, ap length (between_none k)))
            (λ k. omega (arith, m.small, m.stands.some, between-most at p));
      }

  pub all-counted : length text ≤ p → length text ≤ limit → (count + b ≡ length (found_places text literal)) × (count + b ≤ limit + limit + 1)
  all-counted h short = (omega (arith, m.total, ap length (matches-end m.stands h)), omega (arith, m.small, m.stands.most, count-bounds))

pub one-counted : (text literal : List ℕ) {p : ℕ} → p ≡ first_match text literal → p ≡ length text → (1 ≡ length (found_places text literal)) × (1 ≤ limit + limit + 1)
one-counted text literal is none = (sym (ap length (found-whole text literal (sym is ∙ none))), omega arith)

-- what is between two matches, laid
pub between-laid : {a e i r : ℕ} {d₀ d : List ℕ} {p : Place} → a < e → p ≡ place_from a e false → Laid (place_bytes p) d₀ i r d → Laid (encoded_places (between a e)) d₀ i r d
between-laid {a} {e} h is laid = rw (between-some h, encoded-one (place_from a e false), ← is) laid

pub between-size : {a e : ℕ} {p : Place} → a < e → p ≡ place_from a e false → length (place_bytes p) ≡ length (encoded_places (between a e))
between-size {a} {e} h is = rw (between-some h, encoded-one (place_from a e false), ← is)

pub nothing-laid : {a e i : ℕ} {d : List ℕ} → e ≤ a → Laid (encoded_places (between a e)) d i i d
unfolding encoded_places
nothing-laid {i = i} {d = d} h = rw (between_none h) (record { reach = omega arith; holds = sym (splice-nil d i) })

-- writing: none yet, one match more, all
pub record Listed (text literal d₀ d : List ℕ) (i at p : ℕ) : Type 0 where
  pub stands : Searched text literal at p
  pub laid : Laying (found_bytes text literal) (encoded_places (matches_from text literal at)) d₀ i d

pub none-listed : {text literal d₀ : List ℕ} {p : ℕ} → p ≡ first_match text literal → (p ≡ length text → ⊥) → length (found_bytes text literal) ≤ length d₀ → Listed text literal d₀ d₀ 0 0 p
unfolding found_bytes
none-listed {text} {literal} {d₀} is met h =
    let from = found_from text literal is met in
    record { stands = searched-first text literal is met; laid = rw from (none-laid _ d₀ (rw from at h)) }

module _ {text literal d₀ d : List ℕ} {i at p : ℕ} (w : Listed text literal d₀ d i at p) where
  bytes-more : p < length text → encoded_places (matches_from text literal at) ≡ encoded_places (between at p) ++ (place_bytes (place_from p (p + length literal) true) ++ encoded_places (matches_from text literal (p + length literal)))
  unfolding encoded_places
  bytes-more h = ap encoded_places (matches-more w.stands h) ∙ encoded-append (between at p) _

  bytes-end : length text ≤ p → encoded_places (matches_from text literal at) ≡ encoded_places (between at p) ++ []
  bytes-end h = ap encoded_places (matches-end w.stands h) ∙ sym (append-nil _)

  pub room-between : length text ≤ limit → (p ≤ limit) × (i + length (encoded_places (between at p)) ≤ length d)
  room-between short = (
    omega (arith, (first-there w.stands).most),
    le-or-lt (length text) p
        (λ h. omega (arith, w.laid.room, ap length (bytes-end h) ∙ length-append (encoded_places (between at p)) []))
        (λ h. omega (arith, w.laid.room, ap length (bytes-more h) ∙ length-append (encoded_places (between at p)) _)),
  )

  module _ {i₁ : ℕ} {d₁ : List ℕ} (g : Laid (encoded_places (between at p)) d i i₁ d₁) where
    pub before-match : p < length text → Laying (found_bytes text literal) (place_bytes (place_from p (p + length literal) true) ++ encoded_places (matches_from text literal (p + length literal))) d₀ i₁ d₁
    before-match h = piece-laid _ _ _ d₀ i d (rw (bytes-more h) at w.laid) i₁ d₁ g.reach g.holds

    pub room-match : {q : Place} → p < length text → q ≡ place_from p (p + length literal) true → i₁ + length (place_bytes q) ≤ length d₁
    room-match {q} h is =
        rw is (omega (arith, (before-match h).room, length-append (place_bytes (place_from p (p + length literal) true)) (encoded_places (matches_from text literal (p + length literal)))))

    pub next-listed : {q : Place} {i₂ : ℕ} {d₂ : List ℕ} {next : ℕ} → p < length text → q ≡ place_from p (p + length literal) true → Laid (place_bytes q) d₁ i₁ i₂ d₂ → next ≡ first_from text literal (p + length literal) → Listed text literal d₀ d₂ i₂ (p + length literal) next
    next-listed {q} {i₂} {d₂} h is one e =
        let placed : Laid (place_bytes (place_from p (p + length literal) true)) d₁ i₁ i₂ d₂ = rw (← is) one in
        record {
          stands = searched-more w.stands h e;
          laid = piece-laid _ _ _ d₀ i₁ d₁ (before-match h) i₂ d₂ placed.reach placed.holds;
        }

    pub all_listed : length text ≤ p → (i₁ ≡ length (found_bytes text literal)) × (d₁ ≡ overlay (found_bytes text literal) d₀)
    all_listed h =
        let all = piece-laid _ _ _ d₀ i d (rw (bytes-end h) at w.laid) i₁ d₁ g.reach g.holds in
        (omega (arith, laying-size _ _ _ _ _ all), all_laid _ d₀ i₁ d₁ all)

-- one place for the whole text
module _ (text literal : List ℕ) {p : ℕ} {q : Place} (is : p ≡ first_match text literal) (none : p ≡ length text) (one : q ≡ place_from 0 (length text) false) where
  pub whole-bytes : found_bytes text literal ≡ place_bytes q
  unfolding found_bytes
  whole-bytes = rw (found-whole text literal (sym is ∙ none), one) (encoded-one _)

  pub whole-listed : {d₀ d : List ℕ} {r : ℕ} → Laid (place_bytes q) d₀ 0 r d → (r ≡ length (found_bytes text literal)) × (d ≡ overlay (found_bytes text literal) d₀)
  whole-listed {d₀} laid = rw whole-bytes (omega (arith, laid.reach), laid.holds ∙ splice-overlay d₀ _)

module _ (most : ℕ) (text literal o : List ℕ) where
  finding : {v : Verdict} → v ≡ verdict (find_faults most text literal (length o)) → Finding most text literal o (unless_refused Err v (Ok (length (found_bytes text literal)))) (after v (found_bytes text literal) o)
  finding e =
      record { answer = ap (λ (v : Verdict). unless_refused Err v (Ok (length (found_bytes text literal)))) e; list = ap (λ (v : Verdict). after v (found_bytes text literal) o) e }

  module _ {v : Verdict} (e : v ≡ verdict (also (text_faults most text) (string_faults literal))) where
    pub input-refused : {k : Refusal} → v ≡ Err k → Finding most text literal o (Err k) o
    input-refused is = finding (refused-then (up_to IllFormed) (also (text_faults most text) (string_faults literal)) (room_faults (length (found_bytes text literal)) (length o)) refl refl e is)

    module _ (is : v ≡ Accepted) {fits : Bool} (room : fits ≡ leb (length (found_bytes text literal)) (length o)) where
      then-room : {w : Verdict} → w ≡ verdict (room_faults (length (found_bytes text literal)) (length o)) → w ≡ verdict (find_faults most text literal (length o))
      then-room w = accepted-then (up_to IllFormed) (also (text_faults most text) (string_faults literal)) (room_faults (length (found_bytes text literal)) (length o)) refl refl e is w

      pub room-refused : not fits ≡ true → Finding most text literal o (Err NoRoom) o
      room-refused short = finding (then-room (no_room (leb-false (length (found_bytes text literal)) (length o) (sym room ∙ not-true fits short))))

      pub list_written : {size : ℕ} {o₁ : List ℕ} → not fits ≡ false → (size ≡ length (found_bytes text literal)) × (o₁ ≡ overlay (found_bytes text literal) o) → Finding most text literal o (Ok size) o₁
      list_written enough wrote = rw (wrote.0, wrote.1) (finding (then-room (enough-room (leb-true (length (found_bytes text literal)) (length o) (sym room ∙ not-false fits enough)))))
