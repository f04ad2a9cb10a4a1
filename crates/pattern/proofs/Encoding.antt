-- Laws of `placeBytes`: reading gives back what was written.
use Prim.Native.Nat.{ℕ, ◌+◌, ◌*◌, ◌^◌, ◌≤◌, ◌<◌}
use mathlib.Core.Path.{◌≡◌, ◌∙◌, ap, refl}
use mathlib.Core.Bool.{Bool, true, false, cond, ◌||◌}
use mathlib.Mathlib.Data.Bool.Basic.{and_elim_left, and_elim_right}
use mathlib.Core.List.{List, [], ◌∷◌, ◌++◌, append_assoc}
use native.Mathlib.Omega.{arith}
use mir.Val.{bool_byte}
use lib.Dec.{ltb, eqb}
use lib.ListN.{length, get_or, set, take, drop, length-append}
use lib.Seq.{take-suc, set_at, length-take-le}
use native.Mathlib.Numerals.{add-one}
use borrow.Author.Tests.{le-leb, ltb-true}
use Rattle.std.specs.Prelude.{Some}
use Rattle.buffers.specs.Splice.{splice, Laid}
use Rattle.buffers.proofs.Cases.{true-or-false}
use Rattle.buffers.proofs.Splice.{length-splice, splice-splice}
use Rattle.numbers.specs.Entries.{read_from}
use Rattle.numbers.specs.LittleEndian.{little_endian, value_of}
use Rattle.numbers.proofs.LittleEndian.{number-read-back, length-little_endian}
use Rattle.pattern.specs.declared.Place.{Place}
use Rattle.pattern.specs.Entries.{position_at, place_at, entry_at, places_of, whole_list}
use Rattle.pattern.specs.Encoding.{place_bytes, encoded_places, writable, all_writable, room_for, ReadBack, RoomEnough}
use Rattle.pattern.proofs.Entries.{Stepped, entry-step}

pub length-place_bytes : (p : Place) → length (place_bytes p) ≡ 5
unfolding place_bytes little_endian
length-place_bytes p = refl

pub writable-start : (p : Place) → writable p ≡ true → p.start.0 < 256 ^ 2
unfolding writable
writable-start p e = ltb-true p.start.0 (256 ^ 2) (and_elim_left _ (ltb p.end.0 (256 ^ 2)) e)

pub writable-end : (p : Place) → writable p ≡ true → p.end.0 < 256 ^ 2
unfolding writable
writable-end p e = ltb-true p.end.0 (256 ^ 2) (and_elim_right (ltb p.start.0 (256 ^ 2)) _ e)

-- the entry of five bytes, and of a place that was written
entry-built : (c a b d e : ℕ) (rest : List ℕ) (s t : ℕ) (m : Bool) → (eqb c 11 || eqb c 12) ≡ true → eqb c 12 ≡ m → value_of (a ∷ b ∷ []) ≡ s → value_of (d ∷ e ∷ []) ≡ t → entry_at (c ∷ a ∷ b ∷ d ∷ e ∷ rest) 0 ≡ Some (record { start = record { 0 = s }; end = record { 0 = t }; matched = m }, 5)
unfolding entry_at place_at position_at
entry-built c a b d e rest s t m known is from to = rw (known, is, from, to, le-leb 5 (length (c ∷ a ∷ b ∷ d ∷ e ∷ rest)) (omega arith))

command-known : (m : Bool) → (eqb (cond m 12 11) 11 || eqb (cond m 12 11) 12) ≡ true
command-known true = refl
command-known false = refl

command-matched : (m : Bool) → eqb (cond m 12 11) 12 ≡ m
command-matched true = refl
command-matched false = refl

entry-written : (p : Place) (rest : List ℕ) → writable p ≡ true → entry_at (place_bytes p ++ rest) 0 ≡ Some (p, 5)
unfolding place_bytes little_endian
entry-written p rest e =
    entry-built _ _ _ _ _ rest p.start.0 p.end.0 p.matched (command-known p.matched) (command-matched p.matched)
    (number-read-back 2 p.start.0 (writable-start p e)) (number-read-back 2 p.end.0 (writable-end p e))

-- one place, and those after it
read_first : (p : Place) (rest : List ℕ) → writable p ≡ true → (places_of (place_bytes p ++ rest) ≡ p ∷ places_of rest) × (whole_list (place_bytes p ++ rest) ≡ whole_list rest)
unfolding place_bytes little_endian
read_first p rest e =
    let s : Stepped (place_bytes p ++ rest) 0 p 5 = entry-step (place_bytes p ++ rest) refl (entry-written p rest e) in
    (s.places, s.wholes)

pub read_back : ReadBack
unfolding encoded_places all_writable places_of whole_list read_from
read_back [] e = (refl, refl)
read_back (p ∷ ps) e =
    let first = read_first p (encoded_places ps) (and_elim_left _ (all_writable ps) e) in
    let more = read_back ps (and_elim_right (writable p) _ e) in
    (first.0 ∙ ap (◌∷◌ p) more.0, first.1 ∙ more.1)

pub length-encoded : (ps : List Place) → length (encoded_places ps) ≡ length ps * 5
unfolding encoded_places
length-encoded [] = refl
length-encoded (p ∷ ps) = length-append (place_bytes p) (encoded_places ps) ∙ omega (arith, length-place_bytes p, length-encoded ps)

pub room-enough : RoomEnough
unfolding room_for
room-enough ps n h = omega (arith, length-encoded ps)

-- a place that is being written: its start, its end, its command
store-first : (d r : List ℕ) (i c : ℕ) → i < length d → set (splice d (i + 1) r) i c ≡ splice d i (c ∷ r)
unfolding splice
store-first d r i c h =
    let far : i + 1 + length r ≡ i + length (c ∷ r) = omega arith in
    let front : take (i + 1) d ≡ take i d ++ (get_or d i 0 ∷ []) = rw (add-one i) (take-suc d i 0 h) in
    let rest : List ℕ = drop (i + length (c ∷ r)) d in
    rw (front, append_assoc (take i d) (get_or d i 0 ∷ []) r, far, append_assoc (take i d) (get_or d i 0 ∷ r) rest, append_assoc (take i d) (c ∷ r) rest)
    (set_at (take i d) (get_or d i 0) (r ++ rest) c i (length-take-le i d (omega arith)))

two : (n : ℕ) → length (little_endian 2 n) ≡ 2
two n = length-little_endian 2 n

command-byte : (m : Bool) → 11 + bool_byte m ≡ cond m 12 11
command-byte true = refl
command-byte false = refl

pub command-small : (m : Bool) → 11 + bool_byte m < 2 ^ 8
command-small m = rw (command-byte m) (true-or-false m (λ t. rw t (omega arith)) (λ f. rw f (omega arith)))

module _ (p : Place) (d : List ℕ) {d₁ : List ℕ} (i : ℕ) (room : i + length (place_bytes p) ≤ length d) (first : d₁ ≡ splice d (i + 1) (little_endian 2 p.start.0)) where
  pub after-start : length d₁ ≡ length d
  after-start = ap length first ∙ length-splice d (i + 1) _ (omega (arith, length-place_bytes p, two p.start.0))

  module _ {d₂ : List ℕ} (second : d₂ ≡ splice d₁ (i + 3) (little_endian 2 p.end.0)) where
    pub after-end : length d₂ ≡ length d
    after-end = ap length second ∙ length-splice d₁ (i + 3) _ (omega (arith, length-place_bytes p, two p.end.0, after-start)) ∙ after-start

    pub place-laid : Laid (place_bytes p) d i (i + 5) (set d₂ i (11 + bool_byte p.matched))
    unfolding place_bytes
    place-laid =
        let c : ℕ = 11 + bool_byte p.matched in
        let is : c ≡ cond p.matched 12 11 = command-byte p.matched in
        let long : length (place_bytes p) ≡ 5 = length-place_bytes p in
        let far : i + 3 ≡ i + 1 + length (little_endian 2 p.start.0) = omega (arith, two p.start.0) in
        record {
          reach = omega arith;
          holds =
              rw (second, first, far, splice-splice d (little_endian 2 p.start.0) (little_endian 2 p.end.0) (i + 1) (omega arith))
              (store-first d (little_endian 2 p.start.0 ++ little_endian 2 p.end.0) i c (omega arith) ∙ rw is);
        }
