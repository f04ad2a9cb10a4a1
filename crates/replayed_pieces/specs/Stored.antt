-- Whether a case stores what a call that cuts a note, or one on a list of pairs, told, in its fields from `index` on.
use Rattle.std.specs.Prelude.{ℕ, ◌+◌, Bool, ◌&&◌, List}
use Rattle.buffers.specs.Same.{same}
use Rattle.note.specs.Notes.{limit}
use Rattle.stored_answers.specs.Framing.{field_of, is_number}
use Rattle.stored_answers.specs.Differences.{offset_column, numbers_of}
use Rattle.zulmyren.specs.declared.answers.Cut.{Cut}
use Rattle.zulmyren.specs.declared.answers.Written.{Written}
use Rattle.zulmyren.specs.declared.answers.Slice.{Slice}

-- the refusal, and a number, start and end for each pair of a list
abbrev pub pairs_stored : List ℕ → ℕ → ℕ → List ℕ → List ℕ → List ℕ → Bool
pairs_stored case index refusal numbers starts ends =
    ((is_number (field_of index case) refusal
    && same (field_of (index + 1) case) numbers)
    && same starts (numbers_of (field_of (index + 2) case)))
    && same ends (numbers_of (field_of (index + 3) case))

-- the refusal, the two ranges of a slice, its shift
abbrev pub slice_stored : List ℕ → ℕ → Slice → Bool
slice_stored case index a =
    ((((is_number (field_of index case) a.refusal
    && is_number (field_of (index + 1) case) a.original_start)
    && is_number (field_of (index + 2) case) a.original_end)
    && is_number (field_of (index + 3) case) a.normalized_start)
    && is_number (field_of (index + 4) case) a.normalized_end)
    && is_number (field_of (index + 5) case) a.original_shift

-- the refusal, how many pieces and alignments there are, the four columns of pieces
abbrev pub pieces_stored : List ℕ → ℕ → Cut → List ℕ → List ℕ → List ℕ → List ℕ → Bool
pieces_stored case index a starts ends shifts lengths =
    (((((is_number (field_of index case) a.refusal
    && is_number (field_of (index + 1) case) a.len)
    && is_number (field_of (index + 2) case) a.alignments_len)
    && same starts (offset_column limit (field_of (index + 3) case)))
    && same ends (offset_column limit (field_of (index + 4) case)))
    && same shifts (numbers_of (field_of (index + 5) case)))
    && same lengths (offset_column limit (field_of (index + 6) case))

-- the refusal, how many there are, their starts and ends
abbrev pub splits_stored : List ℕ → ℕ → Written → List ℕ → List ℕ → Bool
splits_stored case index a starts ends =
    ((is_number (field_of index case) a.refusal
    && is_number (field_of (index + 1) case) a.len)
    && same starts (numbers_of (field_of (index + 2) case)))
    && same ends (numbers_of (field_of (index + 3) case))
