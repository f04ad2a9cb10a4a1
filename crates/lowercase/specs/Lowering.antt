-- RULES 8.8: `lowercase` by the commands that the Rust builds, and in plain words beside it (Rust: `lowercase`).
use Rattle.std.specs.Prelude.{ℕ, ◌+◌, ◌≡◌, Bool, cond, List, [], ◌∷◌, ◌++◌, ltb, eqb, length, replicate, Result}
use Rattle.note.specs.declared.Refusal.{Refusal}
use Rattle.note.specs.Refusals.{none, verdict, OnThree, Accepted}
use Rattle.note.specs.Notes.{Note, lent, Sound}
use Rattle.script.specs.declared.Command.{Command}
use Rattle.code_point_blocks.specs.Codes.{text_of}
use Rattle.map_columns.specs.Spreading.{of_chars}
use Rattle.edit_steps.specs.Edits.{Edit, transformed}
use Rattle.transform.specs.Transforming.{range_edit, call_faults, NoteCall}
use Rattle.edits.specs.Characters.{codes_of}
use Rattle.edits.specs.Whole.{whole_range, replacing_first, map_edit}
use Rattle.edits.specs.Plain.{MakesUnless, head_bytes, head_chars}
use Rattle.lowercase.specs.Images.{dotted_i, images}

-- LOWERCASE: the first code point in a character's place replaces it, a second one is added
unfoldable pub lower_commands : List ℕ → List Command
lower_commands [] = []
lower_commands (c ∷ cs) = replacing_first (images c) ++ lower_commands cs

unfoldable pub lowercase_edit : Note → Edit
lowercase_edit n = range_edit n (whole_range n) 0 (lower_commands (codes_of n.normalized))

-- the note's refusals, then the edit's (`TransformedSound` says of it, as of every edit, that what is accepted leaves a
-- sound note)
abbrev pub lowercase_faults : ℕ → Note → ℕ → Refusal → Bool
lowercase_faults most n = call_faults most n none (lowercase_edit n)

-- THE CALL
abbrev pub LowercaseCall : Note → OnThree (Result ℕ Refusal)
LowercaseCall n = NoteCall n none (lowercase_edit n)

-- in plain words: the code points in the place of all characters, one character after the other
unfoldable pub all_images : List ℕ → List ℕ
all_images [] = []
all_images (c ∷ cs) = images c ++ all_images cs

-- and values, one for each character, as all bytes in its place carry them
unfoldable pub carried_by_images : List ℕ → List ℕ → List ℕ
carried_by_images [] xs = []
carried_by_images (c ∷ cs) [] = []
carried_by_images (c ∷ cs) (x ∷ xs) = replicate (length (text_of (images c))) x ++ carried_by_images cs xs

unfoldable pub lowercased : Note → Note
lowercased n =
    lent n.original (text_of (all_images (codes_of n.normalized)))
    (carried_by_images (codes_of n.normalized) (of_chars n.normalized n.starts))
    (carried_by_images (codes_of n.normalized) (of_chars n.normalized n.ends))
    n.original_shift

-- CLAIM: so does `lowercase` leave every sound note that has no head; one that has a head it refuses (7).
abbrev pub LowercasedClosed : Type 0
LowercasedClosed =
    (n : Note) → Sound n → MakesUnless n (lowercase_edit n) (ltb 0 (head_chars (head_bytes n) n)) (lowercased n)

-- how often a code point is among others
unfoldable pub occurrences : ℕ → List ℕ → ℕ
occurrences c [] = 0
occurrences c (d ∷ ds) = cond (eqb d c) 1 0 + occurrences c ds

-- CLAIM: the cleaned text becomes longer by one byte for each U+0130, and by nothing else.
abbrev pub LowercasedLength : Type 0
LowercasedLength =
    (n : Note) → Sound n
    → length (lowercased n).normalized ≡ length n.normalized + occurrences dotted_i (codes_of n.normalized)

-- a note that `lowercase` accepts in a room, and leaves as it is: its text and its alignments
pub record StaysLowercase (most : ℕ) (n : Note) (room : ℕ) : Type 0 where
  pub accepts : verdict (lowercase_faults most n room) ≡ Accepted
  pub leaves : transformed n (lowercase_edit n) ≡ n

-- CLAIM: what is made of an accepted note is such a note, in the same room.
abbrev pub LowercasedTwice : Type 0
LowercasedTwice =
    (most : ℕ) (n : Note) (room : ℕ) → verdict (lowercase_faults most n room) ≡ Accepted
    → StaysLowercase most (transformed n (lowercase_edit n)) room

-- CLAIM: without U+0130 it is `map` by the images.
abbrev pub LowercasedMapped : Type 0
LowercasedMapped =
    (n : Note) → occurrences dotted_i (codes_of n.normalized) ≡ 0
    → lowercase_edit n ≡ map_edit n (all_images (codes_of n.normalized))
