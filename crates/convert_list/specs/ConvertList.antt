-- RULES 15.3: converting a list of ranges over one note, each as the single call answers it; the note is checked once.
use Rattle.std.specs.Prelude.{ℕ, ◌≡◌, List, length, get_or, Result}
use Rattle.buffers.specs.Columns.{column}
use Rattle.note.specs.Refusals.{also, verdict, least, after, Verdict}
use Rattle.note.specs.Notes.{Note}
use Rattle.note.specs.Faults.{note_faults, room_faults, length_faults}
use Rattle.convert.specs.declared.OffsetReferential.{OffsetReferential}
use Rattle.convert.specs.declared.Range.{Range}
use Rattle.convert.specs.Converting.{number_in, start_in, end_in, range_of, convert_offsets}
use Rattle.note.specs.declared.Refusal.{Refusal}

-- what is answered of the range at i, by what answers a range
unfoldable pub answer_at : (Range → Result Range Refusal) → OffsetReferential → List ℕ → List ℕ → ℕ → Result Range Refusal
answer_at answer side from to i = answer (range_of side (get_or from i 0) (get_or to i 0))

-- the note's refusals, beside them a list that has not as many ends as starts; then the room for one answer a range
-- the note, the ranges, the passed columns before, the answer, the passed columns after
pub record ConvertedList (most : ℕ) (n : Note) (side : OffsetReferential) (from to numbers₀ starts₀ ends₀ : List ℕ)
    (r : Verdict) (numbers starts ends : List ℕ) : Type 0 where
  pub answer : r ≡ verdict (also (also (note_faults most n) (length_faults from to))
      (room_faults (length from) (least (length numbers₀) (length starts₀) (length ends₀))))
  pub numbers_are : numbers
      ≡ after r (column (length from) (λ i. number_in (answer_at (convert_offsets most n) side from to i))) numbers₀
  pub starts_are : starts
      ≡ after r (column (length from) (λ i. start_in (answer_at (convert_offsets most n) side from to i))) starts₀
  pub ends_are : ends
      ≡ after r (column (length from) (λ i. end_in (answer_at (convert_offsets most n) side from to i))) ends₀
