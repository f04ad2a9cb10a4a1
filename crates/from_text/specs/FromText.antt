-- RULES 15.2: the columns of a fresh text's note (RULES 1.6), written into two passed columns.
use Rattle.std.specs.Prelude.{ℕ, min, ◌≡◌, List, length}
use Rattle.note.specs.Refusals.{also, verdict, after, Verdict}
use Rattle.note.specs.Faults.{text_faults, room_faults}
use Rattle.note.specs.Starting.{starting}

-- the text, the columns before, the answer, the columns after: a text is judged, then room for one number a byte
pub record Started (most : ℕ) (s starts₀ ends₀ : List ℕ) (r : Verdict) (starts ends : List ℕ) : Type 0 where
  pub answer : r ≡ verdict (also (text_faults most s) (room_faults (length s) (min (length starts₀) (length ends₀))))
  pub starts_are : starts ≡ after r (starting s).starts starts₀
  pub ends_are : ends ≡ after r (starting s).ends ends₀
