-- The replay of a case: the exported call's own contract is met by some answer and some buffers, and the result says
-- whether these are what the case stores. The contract leaves no choice of them.
use Rattle.std.specs.Prelude.{ℕ, ◌≡◌, Bool, ◌&&◌, List}
use Rattle.buffers.specs.Same.{same}
use Rattle.note.specs.Notes.{limit}
use Rattle.convert.specs.Converting.{range_of}
use Rattle.split.specs.Splitting.{PieceColumns}
use Rattle.stored_answers.specs.declared.calls.PairsCall.{PairsCall}
use Rattle.stored_answers.specs.declared.calls.PairsCall.TheVariants.{CharOffsetsAll, ConvertAll}
use Rattle.stored_answers.specs.Framing.{field_of}
use Rattle.stored_answers.specs.Differences.{offset_column}
use Rattle.stored_answers.specs.Lending.{number_at, flag_at, note_at}
use Rattle.zulmyren.specs.declared.answers.Cut.{Cut}
use Rattle.zulmyren.specs.declared.answers.Written.{Written}
use Rattle.zulmyren.specs.declared.answers.Slice.{Slice}
use Rattle.zulmyren.specs.Calls.{side_of, behavior_of, empty_of, unit_of}
use Rattle.zulmyren.specs.Promised.{CharOffsetsAllCall, ConvertAllCall, GetSplitsCall, SliceCall, SplitCall}
use Rattle.replayed_pieces.specs.Stored.{pairs_stored, slice_stored, pieces_stored, splits_stored}

-- slicing; the note's columns, and those for the slice
pub record SliceReplayed (case starts ends lent_starts lent_ends : List ℕ) (r : Bool) : Type 0 where
  pub answer : Slice
  pub out_starts : List ℕ
  pub out_ends : List ℕ
  pub met :
      SliceCall (note_at case starts ends) (range_of (side_of (flag_at case 5)) (number_at case 6) (number_at case 7))
      lent_starts lent_ends answer out_starts out_ends
  pub says :
      r ≡ (slice_stored case 10 answer && same out_starts (offset_column limit (field_of 16 case)))
      && same out_ends (offset_column limit (field_of 17 case))

-- splitting; the note's columns, and the six for the pieces
pub record SplitReplayed (case starts ends : List ℕ) (lent : PieceColumns) (r : Bool) : Type 0 where
  pub answer : Cut
  pub out : PieceColumns
  pub met :
      SplitCall (note_at case starts ends) (field_of 5 case) (behavior_of (number_at case 6)) (empty_of (flag_at case 7))
      lent answer out
  pub says :
      r ≡ (pieces_stored case 14 answer out.starts out.ends out.shifts out.lengths
      && same out.alignment_starts (offset_column limit (field_of 21 case)))
      && same out.alignment_ends (offset_column limit (field_of 22 case))

-- split offsets; the note's columns, and the two for the offsets
pub record SplitsReplayed (case starts ends lent_starts lent_ends : List ℕ) (r : Bool) : Type 0 where
  pub answer : Written
  pub out_starts : List ℕ
  pub out_ends : List ℕ
  pub met :
      GetSplitsCall (note_at case starts ends) (field_of 5 case)
      (behavior_of (number_at case 6)) (side_of (flag_at case 7)) (unit_of (flag_at case 8))
      lent_starts lent_ends answer out_starts out_ends
  pub says : r ≡ splits_stored case 11 answer out_starts out_ends

-- what a call on a list of pairs promises
abbrev pub PairsPromised : PairsCall → List ℕ → List ℕ → List ℕ → List ℕ → List ℕ
    → List ℕ → List ℕ → List ℕ → ℕ → List ℕ → List ℕ → List ℕ → Type 0
PairsPromised CharOffsetsAll case starts ends from to = CharOffsetsAllCall (field_of 0 case) from to
PairsPromised ConvertAll case starts ends from to =
    ConvertAllCall (note_at case starts ends) (side_of (flag_at case 5)) from to

-- a call on a list of pairs; the three buffers before, the refusal, and the three after
pub record PairsTold (call : PairsCall) (case starts ends from to numbers₀ starts₀ ends₀ : List ℕ) (r : ℕ)
    (numbers s e : List ℕ) : Type 0 where
  pub met : PairsPromised call case starts ends from to numbers₀ starts₀ ends₀ r numbers s e

pub record PairsReplayed (call : PairsCall) (case : List ℕ) (index : ℕ) (starts ends from to : List ℕ)
    (numbers₀ starts₀ ends₀ : List ℕ) (r : Bool) : Type 0 where
  pub answer : ℕ
  pub numbers : List ℕ
  pub out_starts : List ℕ
  pub out_ends : List ℕ
  pub met : PairsTold call case starts ends from to numbers₀ starts₀ ends₀ answer numbers out_starts out_ends
  pub says : r ≡ pairs_stored case index answer numbers out_starts out_ends
