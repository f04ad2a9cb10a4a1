-- RULES 9: places as the bytes of a list.
use Rattle.std.specs.Prelude.{ℕ, ◌*◌, ◌^◌, ◌≤◌, ◌≡◌, Bool, true, cond, ◌&&◌, List, [], ◌∷◌, ◌++◌, ltb, length}
use Rattle.numbers.specs.LittleEndian.{little_endian}
use Rattle.pattern.specs.declared.Place.{Place}
use Rattle.pattern.specs.Entries.{places_of, whole_list}

unfoldable pub place_bytes : Place → List ℕ
place_bytes p = cond p.matched 12 11 ∷ (little_endian 2 p.start.0 ++ little_endian 2 p.end.0)

unfoldable pub encoded_places : List Place → List ℕ
encoded_places [] = []
encoded_places (p ∷ ps) = place_bytes p ++ encoded_places ps

-- both positions have two bytes
unfoldable pub writable : Place → Bool
writable p = ltb p.start.0 (256 ^ 2) && ltb p.end.0 (256 ^ 2)

unfoldable pub all_writable : List Place → Bool
all_writable [] = true
all_writable (p ∷ ps) = writable p && all_writable ps

-- CLAIM: reading gives back what was written.
abbrev pub ReadBack : Type 0
ReadBack = (ps : List Place) → all_writable ps ≡ true
    → (places_of (encoded_places ps) ≡ ps) × (whole_list (encoded_places ps) ≡ true)

-- bytes that are enough for so many places
unfoldable pub room_for : ℕ → ℕ
room_for places = places * 5

-- CLAIM: so they are.
abbrev pub RoomEnough : Type 0
RoomEnough = (ps : List Place) (n : ℕ) → length ps ≤ n → length (encoded_places ps) ≤ room_for n
