-- RULES 9.6: the list that `find_matches` writes, its refusals and its answer.
use Rattle.std.specs.Prelude.{ℕ, ◌+◌, ◌*◌, ◌/◌, ◌≤◌, ◌<◌, ◌≡◌, Bool, true, List, length, Result, Ok, Err}
use Rattle.utf8.specs.Formed.{well_formed}
use Rattle.note.specs.declared.Refusal.{Refusal}
use Rattle.note.specs.Refusals.{also, verdict, after, unless_refused}
use Rattle.note.specs.Notes.{limit}
use Rattle.note.specs.Faults.{text_faults, string_faults, room_faults}
use Rattle.pattern.specs.Entries.{places_of}
use Rattle.pattern.specs.Places.{covers}
use Rattle.pattern.specs.Encoding.{encoded_places, room_for}
use Rattle.find.specs.Matching.{found_places}

-- the list as it is written
unfoldable pub found_bytes : List ℕ → List ℕ → List ℕ
found_bytes text literal = encoded_places (found_places text literal)

-- CLAIM: what is found covers the text, so that it can be replaced and split by.
abbrev pub FoundCovers : Type 0
FoundCovers = (text literal : List ℕ) → well_formed text ≡ true → well_formed literal ≡ true → length text ≤ limit
    → covers text (found_bytes text literal) ≡ true

-- CLAIM: what is read from the list are the places found.
abbrev pub FoundRead : Type 0
FoundRead = (text literal : List ℕ) → length text ≤ limit
    → places_of (found_bytes text literal) ≡ found_places text literal

-- CLAIM: always enough room. A literal of m bytes has at most n / m matches in n bytes, and something may stand
-- before each one and after the last.
abbrev pub LongestList : Type 0
LongestList = (text literal : List ℕ) → 0 < length literal
    → length (found_bytes text literal) ≤ room_for (2 * (length text / length literal) + 1)

-- the refusals of the call, which is given so much room
abbrev pub find_faults : ℕ → List ℕ → List ℕ → ℕ → Refusal → Bool
find_faults most text literal room =
    also (also (text_faults most text) (string_faults literal)) (room_faults (length (found_bytes text literal)) room)

-- the call: limit, text, literal, the passed bytes before, the answer, the passed bytes after
pub record Finding (most : ℕ) (text literal o₀ : List ℕ) (r : Result ℕ Refusal) (o₁ : List ℕ) : Type 0 where
  pub answer :
      r ≡ unless_refused Err (verdict (find_faults most text literal (length o₀)))
      (Ok (length (found_bytes text literal)))
  pub list : o₁ ≡ after (verdict (find_faults most text literal (length o₀))) (found_bytes text literal) o₀
