-- Laws of `placeSize` and `placesSize`: the size of a result is that of its places, and the code sums it up to the limit.
use Prim.Native.Nat.{ℕ, ◌+◌, ◌-◌, ◌≤◌, ◌<◌, min}
use mathlib.Core.Path.{◌≡◌, ◌∙◌, refl}
use mathlib.Core.Bool.{true, false}
use mathlib.Core.List.{List, [], ◌∷◌}
use native.Mathlib.Omega.{arith}
use lib.ListN.{length, drop, length-append}
use Rattle.std.specs.Prelude.{Option, Some, None}
use Rattle.buffers.proofs.Cases.{true-or-false}
use Rattle.buffers.proofs.Splice.{length_part}
use Rattle.pattern.specs.declared.Place.{Place}
use Rattle.pattern.specs.Entries.{entry_at, places_of}
use Rattle.pattern.specs.Places.{fits_at, covers_from}
use Rattle.pattern.proofs.Entries.{Stepped, entry-step, entry-broken, entries-end}
use Rattle.pattern.proofs.Places.{Span, fits-span, covers-first, covers-rest}
use Rattle.replace.specs.Replacing.{piece, laid}
use Rattle.replace.specs.Sizes.{place_size, places_size}

module _ (p : Place) (content_len : ℕ) where
  pub size-matched : p.matched ≡ true → place_size content_len p ≡ content_len
  unfolding place_size
  size-matched e = rw e

  pub size-unmatched : p.matched ≡ false → place_size content_len p ≡ p.end.0 - p.start.0
  unfolding place_size
  size-unmatched e = rw e

  pub size-reversed : p.matched ≡ false → p.end.0 < p.start.0 → 0 ≡ place_size content_len p
  size-reversed e h = omega (arith, size-unmatched e)

-- a place that fits gives as many elements of a column as it gives bytes
pub length-piece : (text xs : List ℕ) (f : ℕ → List ℕ) (content_len at : ℕ) (p : Place) → length xs ≡ length text → ((e : ℕ) → length (f e) ≡ content_len) → fits_at text at p ≡ true → length (piece f p xs) ≡ place_size content_len p
unfolding piece place_size
length-piece text xs f content_len at p lx lf h =
    let here : Span text at p = fits-span text at p h in
    true-or-false p.matched
    (λ t. rw t (lf p.end.0))
    (λ u. rw u (length_part xs p.start.0 p.end.0 (omega (arith, here.inside))))

pub length-laid : (text xs : List ℕ) (f : ℕ → List ℕ) (content_len at : ℕ) (ps : List Place) → length xs ≡ length text → ((e : ℕ) → length (f e) ≡ content_len) → covers_from text at ps ≡ true → length (laid f ps xs) ≡ places_size content_len ps
unfolding laid places_size
length-laid text xs f content_len at [] lx lf c = refl
length-laid text xs f content_len at (p ∷ ps) lx lf c =
    rw (
      length-append,
      length-piece text xs f content_len at p lx lf (covers-first text at p ps c),
      length-laid text xs f content_len p.end.0 ps lx lf (covers-rest text at p ps c),
    )

-- what the places before i give, all of which is within the limit
pub record Measured (most : ℕ) (list : List ℕ) (content_len total i : ℕ) : Type 0 where
  pub so_far : places_size content_len (places_of list) ≡ total + places_size content_len (places_of (drop i list))
  pub small : total ≤ most
  pub inside : i ≤ length list

pub none-measured : {most : ℕ} (list : List ℕ) (content_len : ℕ) → Measured most list content_len 0 0
none-measured list content_len = record { so_far = omega arith; small = omega arith; inside = omega arith }

module _ {most : ℕ} {list : List ℕ} {content_len total i : ℕ} (m : Measured most list content_len total i) where
  module _ {entry : Option (Place × ℕ)} {p : Place} {next size : ℕ} (is : entry ≡ entry_at list i) (there : entry ≡ Some (p, next)) (e : size ≡ place_size content_len p) where
    step : places_size content_len (places_of list) ≡ total + (size + places_size content_len (places_of (drop next list)))
    unfolding places_size
    step = let s : Stepped list i p next = entry-step list is there in m.so_far ∙ rw (s.places, e)

    pub more-measured : size ≤ most - total → Measured most list content_len (total + size) next
    more-measured fits = record { so_far = omega (arith, step); small = omega (arith, m.small); inside = (entry-step list is there).most }

    pub too_much : most - total < size → most + 1 ≡ min (most + 1) (places_size content_len (places_of list))
    too_much over = omega (arith, step, m.small)

  rest : places_of (drop i list) ≡ [] → total ≡ min (most + 1) (places_size content_len (places_of list))
  unfolding places_size
  rest none = let z : places_size content_len (places_of (drop i list)) ≡ 0 = rw none in omega (arith, m.so_far, m.small)

  pub broken-measured : {entry : Option (Place × ℕ)} → i < length list → entry ≡ entry_at list i → entry ≡ None → total ≡ min (most + 1) (places_size content_len (places_of list))
  broken-measured h is e = rest (entry-broken list h is e).0

  pub all-measured : length list ≤ i → total ≡ min (most + 1) (places_size content_len (places_of list))
  all-measured h = rest (entries-end list h).0
