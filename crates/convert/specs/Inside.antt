-- RULES 4.8: where a converted range lies.
use Rattle.std.specs.Prelude.{ℕ, ◌≤◌, ◌≡◌, true, List, ◌⊎◌, length, Result, Ok, Err}
use Rattle.utf8.specs.Formed.{well_formed, char_range}
use Rattle.note.specs.declared.Refusal.TheVariants.{Missing}
use Rattle.note.specs.Refusals.{verdict, Accepted}
use Rattle.note.specs.Notes.{Note}
use Rattle.note.specs.Faults.{note_faults}
use Rattle.note.specs.Starting.{starting}
use Rattle.convert.specs.declared.Range.{Range}
use Rattle.convert.specs.declared.Range.TheVariants.{Original, Normalized}
use Rattle.convert.specs.Converting.{in_original, in_normalized, start_of, end_of, convert_offsets}
use Rattle.note.specs.declared.Refusal.{Refusal}

-- a range that lies inside the cleaned text, from a boundary of it to a boundary of it; and one inside the transcript
abbrev pub LiesNormalized : Note → Range → Type 0
LiesNormalized n (Original a b) = ⊥
LiesNormalized n (Normalized a b) = char_range n.normalized a.0 b.0 ≡ true

abbrev pub LiesOriginal : Note → Range → Type 0
LiesOriginal n (Original a b) = char_range n.original a.0 b.0 ≡ true
LiesOriginal n (Normalized a b) = ⊥

abbrev pub LiesInOther : Note → Range → Range → Type 0
LiesInOther n (Original a b) r = LiesNormalized n r
LiesInOther n (Normalized a b) r = LiesOriginal n r

-- the same numbers of the other text
abbrev pub unconverted : Range → Range
unconverted (Original a b) = in_normalized a.0 b.0
unconverted (Normalized a b) = in_original a.0 b.0

-- an answer is `Missing`, or the same numbers for an empty range, or a range that lies inside the other text
abbrev pub Outcome : Note → Range → Result Range Refusal → Type 0
Outcome n range (Err k) = k ≡ Missing
Outcome n range (Ok r) = ((start_of range ≡ end_of range) × (r ≡ unconverted range)) ⊎ LiesInOther n range r

-- CLAIM: on every note that the call accepts, a range that is not empty and has an answer is converted to one that lies
-- inside the other text, from a boundary to a boundary.
abbrev pub ConvertedInside : Type 0
ConvertedInside =
    (most : ℕ) (n : Note) → verdict (note_faults most n) ≡ Accepted → (range : Range)
    → Outcome n range (convert_offsets most n range)

-- CLAIM: on the note of a fresh text a range between boundaries is converted to the same numbers of the other text.
abbrev pub ConvertedItself : Type 0
ConvertedItself =
    (most : ℕ) (s : List ℕ) → well_formed s ≡ true → length s ≤ most → (range : Range)
    → char_range s (start_of range) (end_of range) ≡ true
    → convert_offsets most (starting s) range ≡ Ok (unconverted range)
