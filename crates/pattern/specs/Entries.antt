-- RULES 9: what is at a byte of a match list. A place is a command, 11 unmatched or 12 matched, and its start and its
-- end in two little-endian bytes each.
use Rattle.std.specs.Prelude.{ℕ, ◌+◌, ◌/◌, ◌≤◌, ◌≡◌, Bool, true, false, cond, ◌&&◌, ◌||◌, List, [], ◌∷◌, leb, eqb, length, get_or, Option, Some, None}
use Rattle.buffers.specs.Splice.{part}
use Rattle.numbers.specs.Entries.{read_from}
use Rattle.numbers.specs.LittleEndian.{value_of}
use Rattle.note.specs.declared.NormalizedByte.{NormalizedByte}
use Rattle.pattern.specs.declared.Place.{Place}

unfoldable pub position_at : List ℕ → ℕ → NormalizedByte
position_at l i = record { 0 = value_of (part l i (i + 2)) }

unfoldable pub place_at : List ℕ → ℕ → Place
place_at l i =
    record { start = position_at l (i + 1); end = position_at l (i + 3); matched = eqb (get_or l i 0) 12 }

-- a place, and where the next one begins; or an unknown command or a cut operand
unfoldable pub entry_at : List ℕ → ℕ → Option (Place × ℕ)
entry_at l i =
    cond ((eqb (get_or l i 0) 11 || eqb (get_or l i 0) 12) && leb (i + 5) (length l)) (Some (place_at l i, i + 5)) None

-- what is said of an entry: of a place and where the next one begins, or of none
abbrev pub of_entry : {A : Type 0} → A → (Place → ℕ → A) → Option (Place × ℕ) → A
of_entry none some (Some (p, next)) = some p next
of_entry none some None = none

-- how many bytes the entry at the front of a list has; after one that is no place nothing is read
abbrev pub entry_size : List ℕ → ℕ
entry_size l = of_entry 1 (λ p next. next) (entry_at l 0)

-- the places of a list, up to an entry that is none
unfoldable pub places_of : List ℕ → List Place
places_of l = read_from entry_size (λ l ps. of_entry [] (λ p next. p ∷ ps) (entry_at l 0)) [] 0 l

-- whether each entry of a list is a place
unfoldable pub whole_list : List ℕ → Bool
whole_list l = read_from entry_size (λ l rest. of_entry false (λ p next. rest) (entry_at l 0)) true 0 l

-- as many places as bytes are enough for
unfoldable pub most_places : List ℕ → ℕ
most_places l = length l / 5

-- CLAIM: a list has no more places, and just as many where each entry is a place.
abbrev pub MostPlaces : Type 0
MostPlaces = (l : List ℕ) → (length (places_of l) ≤ most_places l)
    × (whole_list l ≡ true → length (places_of l) ≡ most_places l)
