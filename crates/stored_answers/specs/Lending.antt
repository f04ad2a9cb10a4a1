-- What a case lends to a call: numbers, flags, and a note whose columns are read already.
use Rattle.std.specs.Prelude.{ℕ, Bool, List, eqb}
use Rattle.note.specs.Notes.{Note, lent}
use Rattle.stored_answers.specs.Framing.{leading_number, field_of}

-- the number at a field
abbrev pub number_at : List ℕ → ℕ → ℕ
number_at case index = leading_number (field_of index case)

-- whether it is 1
abbrev pub flag_at : List ℕ → ℕ → Bool
flag_at case index = eqb (number_at case index) 1

-- the note of the first five fields: transcript, cleaned text, starts, ends, shift
abbrev pub note_at : List ℕ → List ℕ → List ℕ → Note
note_at case starts ends = lent (field_of 0 case) (field_of 1 case) starts ends (number_at case 4)
