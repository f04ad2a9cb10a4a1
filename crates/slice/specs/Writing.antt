-- What the inner functions of `slice` are told and say.
use Rattle.std.specs.Prelude.{ℕ, ◌+◌, ◌≤◌, ◌<◌, ◌≡◌, List, length, get_or, Result, Ok, Err}
use Rattle.note.specs.Refusals.{verdict, unless_refused}
use Rattle.note.specs.Notes.{Note}
use Rattle.convert.specs.declared.Range.{Range}
use Rattle.convert.specs.Converting.{start_in}
use Rattle.slice.specs.Slicing.{sliced, slice_faults}
use Rattle.note.specs.declared.Refusal.{Refusal}
use Rattle.slice.specs.declared.NoteSlice.{NoteSlice}

-- what is said before anything is written
pub record SliceJudged (most : ℕ) (n : Note) (range : Range) (room : ℕ) (r : Result NoteSlice Refusal) : Type 0 where
  pub answer : r ≡ unless_refused Err (verdict (slice_faults most n range room)) (Ok (sliced n range))

-- a shift that can grow by what is before a range
pub record Shiftable (most : ℕ) (in_original : Result Range Refusal) (shift : ℕ) : Type 0 where
  pub near : start_in in_original ≤ most
  pub low : shift ≤ most

-- room for a column from `at` on, and no number of it is below `base`
pub record Lowerable (column : List ℕ) (base : ℕ) (out : List ℕ) (at : ℕ) : Type 0 where
  pub room : at + length column ≤ length out
  pub above : (i : ℕ) → i < length column → base ≤ get_or column i 0
