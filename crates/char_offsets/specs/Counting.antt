-- RULES 3.7: the letter count of a range as a call.
use Rattle.std.specs.Prelude.{ℕ, not, List, Result, Ok, Err}
use Rattle.buffers.specs.Splice.{part}
use Rattle.utf8.specs.Formed.{char_range}
use Rattle.utf8.specs.Chars.{chars}
use Rattle.note.specs.declared.Refusal.TheVariants.{NotBoundary}
use Rattle.note.specs.Refusals.{none, meets, also, verdict, unless_refused}
use Rattle.note.specs.Faults.{text_faults}
use Rattle.note.specs.declared.Refusal.{Refusal}

-- the text is judged, then that the range goes from a boundary to a boundary; each of its characters is a letter
unfoldable pub letter_count : ℕ → List ℕ → ℕ → ℕ → Result ℕ Refusal
letter_count most s a e =
    unless_refused Err (verdict (also (text_faults most s) (meets NotBoundary (not (char_range s a e)) none)))
    (Ok (chars (part s a e)))
