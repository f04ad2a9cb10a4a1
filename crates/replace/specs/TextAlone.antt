-- RULES 10: what the published text tells where it is handed out alone, without its alignments: with one list the bytes
-- outside the matched places and nothing else; and no length of what was blanked.
use Rattle.std.specs.Prelude.{ℕ, ◌<◌, ◌≡◌, Bool, List, [], ◌∷◌, length, take, Ok}
use Rattle.note.specs.Notes.{Note}
use Rattle.pattern.specs.declared.Place.{Place}
use Rattle.pattern.specs.Entries.{places_of}
use Rattle.replace.specs.Replacing.{piece, Replacing}
use Rattle.replace.specs.Blanking.{Outside, SameByte}

-- at each position outside, the two notes have the same byte
abbrev pub SameOutside : Note → Note → List Place → Type 0
SameOutside n m ps = (p : ℕ) → p < length n.normalized → Outside ps p → SameByte n m p

-- CLAIM: two notes, one list and one content, replacing accepts both: the published texts are equal exactly when the
-- notes have the same byte at each position outside the matched places. Nothing is asked of their alignments.
abbrev pub TextAlone : Type 0
TextAlone =
    (most : ℕ) (n m : Note) (list content : List ℕ) (a b : ℕ)
    (outₙ₀ startsₙ₀ endsₙ₀ outₙ startsₙ endsₙ outₘ₀ startsₘ₀ endsₘ₀ outₘ startsₘ endsₘ : List ℕ)
    → Replacing most n list content outₙ₀ startsₙ₀ endsₙ₀ (Ok a) outₙ startsₙ endsₙ
    → Replacing most m list content outₘ₀ startsₘ₀ endsₘ₀ (Ok b) outₘ startsₘ endsₘ
    → (take a outₙ ≡ take b outₘ → SameOutside n m (places_of list))
    × (SameOutside n m (places_of list) → take a outₙ ≡ take b outₘ)

-- what places leave of a text: of each one whether it is matched, and the bytes that it holds where it is not
unfoldable pub kept_parts : List Place → List ℕ → List (Bool × List ℕ)
kept_parts [] xs = []
kept_parts (p ∷ ps) xs = (p.matched, piece (λ end. []) p xs) ∷ kept_parts ps xs

-- CLAIM: two notes, a list for each of them and one content, replacing accepts both: where matched and unmatched places
-- follow each other in the same order and the unmatched ones hold the same bytes, the published texts are equal,
-- however long the matched places are and whatever they hold.
abbrev pub TextAloneTwoLists : Type 0
TextAloneTwoLists =
    (most : ℕ) (n m : Note) (listₙ listₘ content : List ℕ) (a b : ℕ)
    (outₙ₀ startsₙ₀ endsₙ₀ outₙ startsₙ endsₙ outₘ₀ startsₘ₀ endsₘ₀ outₘ startsₘ endsₘ : List ℕ)
    → Replacing most n listₙ content outₙ₀ startsₙ₀ endsₙ₀ (Ok a) outₙ startsₙ endsₙ
    → Replacing most m listₘ content outₘ₀ startsₘ₀ endsₘ₀ (Ok b) outₘ startsₘ endsₘ
    → kept_parts (places_of listₙ) n.normalized ≡ kept_parts (places_of listₘ) m.normalized
    → take a outₙ ≡ take b outₘ
