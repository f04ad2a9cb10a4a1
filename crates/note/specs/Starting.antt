-- RULES 1: the note of a fresh text (Rust: `From<String>`).
use Rattle.std.specs.Prelude.{ℕ, ◌≤◌, ◌≡◌, true, List, length}
use Rattle.buffers.specs.Columns.{column}
use Rattle.utf8.specs.Formed.{well_formed}
use Rattle.utf8.specs.CharRanges.{char_start, char_end}
use Rattle.note.specs.Refusals.{verdict, Accepted}
use Rattle.note.specs.Notes.{Note, lent, Sound}
use Rattle.note.specs.Faults.{note_faults}

-- both texts are the fresh one, each byte is aligned to its character, and the shift is 0
unfoldable pub starting : List ℕ → Note
starting s = lent s s (column (length s) (char_start s)) (column (length s) (char_end s)) 0

-- CLAIM: the note of a fresh well-formed text is sound.
abbrev pub StartingSound : Type 0
StartingSound = (s : List ℕ) → well_formed s ≡ true → Sound (starting s)

-- CLAIM: every call accepts the note of a fresh well-formed text within the limit.
abbrev pub StartingAccepted : Type 0
StartingAccepted =
    (most : ℕ) (s : List ℕ) → well_formed s ≡ true → length s ≤ most → verdict (note_faults most (starting s)) ≡ Accepted
