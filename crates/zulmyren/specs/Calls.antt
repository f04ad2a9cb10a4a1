-- An exported call answers the numbers of the call below, whose contract its buffers meet (RULES 2.6).
use Rattle.std.specs.Prelude.{ℕ, ◌≡◌, Bool, false, cond, eqb, Result, Ok, Err}
use Rattle.note.specs.Refusals.{number_of}
use Rattle.convert.specs.declared.OffsetReferential.{OffsetReferential}
use Rattle.convert.specs.declared.OffsetReferential.TheVariants.{Original, Normalized}
use Rattle.convert.specs.Converting.{number_in, start_in, end_in}
use Rattle.slice.specs.Slicing.{original_start_of, original_end_of, normalized_start_of, normalized_end_of}
use Rattle.behaviors.specs.declared.SplitDelimiterBehavior.{SplitDelimiterBehavior}
use Rattle.behaviors.specs.declared.SplitDelimiterBehavior.TheVariants.{
  Removed,
  Isolated,
  MergedWithPrevious,
  MergedWithNext,
  Contiguous,
}
use Rattle.behaviors.specs.declared.EmptyPieces.{EmptyPieces}
use Rattle.behaviors.specs.declared.EmptyPieces.TheVariants.{Kept, Dropped}
use Rattle.char_columns.specs.declared.OffsetType.{OffsetType}
use Rattle.char_columns.specs.declared.OffsetType.TheVariants.{Byte, Char}
use Rattle.zulmyren.specs.declared.answers.Count.{Count}
use Rattle.zulmyren.specs.declared.answers.Lengths.{Lengths}
use Rattle.zulmyren.specs.declared.answers.Offsets.{Offsets}
use Rattle.zulmyren.specs.declared.answers.Written.{Written}
use Rattle.zulmyren.specs.declared.answers.Blanked.{Blanked}
use Rattle.zulmyren.specs.declared.answers.BlankedAll.{BlankedAll}
use Rattle.zulmyren.specs.declared.answers.Comparison.{Comparison}
use Rattle.zulmyren.specs.declared.answers.Slice.{Slice}
use Rattle.zulmyren.specs.declared.answers.Cut.{Cut as CutCount}
use Rattle.convert.specs.declared.Range.{Range}
use Rattle.note.specs.declared.CharIndex.{CharIndex}
use Rattle.note.specs.declared.Refusal.{Refusal}
use Rattle.redact_all.specs.declared.Report.{Report}
use Rattle.slice.specs.declared.NoteSlice.{NoteSlice}

-- r tells, in numbers, an answer with which the call below is met
pub record Told {A N : Type 0} (tell : A → N) (call : A → Type 0) (r : N) : Type 0 where
  pub answer : A
  pub told : r ≡ tell answer
  pub met : call answer

abbrev pub letters_of : Result ℕ Refusal → Count
letters_of (Ok n) = record { refusal = 0; count = n }
letters_of (Err k) = record { refusal = number_of k; count = 0 }

abbrev pub written_of : Result ℕ Refusal → Written
written_of (Ok n) = record { refusal = 0; len = n }
written_of (Err k) = record { refusal = number_of k; len = 0 }

abbrev pub blanked_of : Result (ℕ × ℕ) Refusal → Blanked
blanked_of (Ok (n, count)) = record { refusal = 0; len = n; matches = count }
blanked_of (Err k) = record { refusal = number_of k; len = 0; matches = 0 }

abbrev pub all_blanked_with : ℕ → ℕ → ℕ → ℕ → ℕ → BlankedAll
all_blanked_with refusal len not_found left fillers_found =
    record { refusal = refusal; len = len; not_found = not_found; left = left; fillers_found = fillers_found }

abbrev pub all_blanked_of : Result Report Refusal → BlankedAll
all_blanked_of (Ok r) = all_blanked_with 0 r.len r.not_found r.left r.fillers_found
all_blanked_of (Err k) = all_blanked_with (number_of k) 0 0 0 0

abbrev pub chars_of : Result (CharIndex × CharIndex) Refusal → Offsets
chars_of (Ok (a, e)) = record { refusal = 0; start = a.0; end = e.0 }
chars_of (Err k) = record { refusal = number_of k; start = 0; end = 0 }

unfoldable pub offsets_of : Result Range Refusal → Offsets
offsets_of answer = record { refusal = number_in answer; start = start_in answer; end = end_in answer }

abbrev pub compared_of : Result Bool Refusal → Comparison
compared_of (Ok alike) = record { refusal = 0; alike = alike }
compared_of (Err k) = record { refusal = number_of k; alike = false }

abbrev pub slice_with : ℕ → ℕ → ℕ → ℕ → ℕ → ℕ → Slice
slice_with refusal a b c d shift =
    record {
      refusal = refusal;
      original_start = a;
      original_end = b;
      normalized_start = c;
      normalized_end = d;
      original_shift = shift;
    }

abbrev pub slice_numbers : Result NoteSlice Refusal → Slice
slice_numbers (Ok s) =
    slice_with 0 (original_start_of s) (original_end_of s) (normalized_start_of s) (normalized_end_of s) s.original_shift
slice_numbers (Err k) = slice_with (number_of k) 0 0 0 0 0

abbrev pub cut_numbers : Result (ℕ × ℕ) Refusal → CutCount
cut_numbers (Ok (pieces, alignments)) = record { refusal = 0; len = pieces; alignments_len = alignments }
cut_numbers (Err k) = record { refusal = number_of k; len = 0; alignments_len = 0 }

-- a behaviour by its number, of which any that is not 1 to 4 means the fifth
unfoldable pub behavior_of : ℕ → SplitDelimiterBehavior
behavior_of n =
    cond (eqb n 1) Removed
    (cond (eqb n 2) Isolated (cond (eqb n 3) MergedWithPrevious (cond (eqb n 4) MergedWithNext Contiguous)))

abbrev pub empty_of : Bool → EmptyPieces
empty_of drop = cond drop Dropped Kept

abbrev pub unit_of : Bool → OffsetType
unit_of in_chars = cond in_chars Char Byte

abbrev pub cleared_of : Result (ℕ × ℕ) Refusal → Lengths
cleared_of (Ok (before, left)) = record { refusal = 0; before_len = before; len = left }
cleared_of (Err k) = record { refusal = number_of k; before_len = 0; len = 0 }

-- the text that a range is in
abbrev pub side_of : Bool → OffsetReferential
side_of original = cond original Original Normalized
