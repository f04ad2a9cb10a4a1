-- RULES 11.7: each piece is what `slice` answers for its cleaned range.
use Rattle.std.specs.Prelude.{ℕ, zero, suc, ◌+◌, ◌-◌, ◌≤◌, ◌<◌, ◌≡◌, List, [], ◌∷◌, length, get_or, Result, Ok}
use Rattle.buffers.specs.Splice.{part, overlay}
use Rattle.note.specs.Notes.{Note}
use Rattle.convert.specs.Converting.{in_normalized}
use Rattle.slice.specs.declared.NoteSlice.{NoteSlice}
use Rattle.slice.specs.Slicing.{normalized_start_of, normalized_end_of, Slicing}
use Rattle.behaviors.specs.declared.SplitDelimiterBehavior.{SplitDelimiterBehavior}
use Rattle.behaviors.specs.declared.EmptyPieces.{EmptyPieces}
use Rattle.split.specs.Splitting.{PieceColumns, original_length, Splitting}
use Rattle.note.specs.declared.Refusal.{Refusal}

-- how many bytes the first k pieces have together, by their starts and ends; so where the next one's alignments begin
unfoldable pub bytes_before : List ℕ → List ℕ → ℕ → ℕ
bytes_before from to zero = 0
bytes_before [] to (suc k) = 0
bytes_before (a ∷ from) [] (suc k) = 0
bytes_before (a ∷ from) (b ∷ to) (suc k) = (b - a) + bytes_before from to k

-- the stretch of a column of alignments that the piece at k has
abbrev pub stretch_of : PieceColumns → ℕ → List ℕ → List ℕ
stretch_of c k column =
    part column (bytes_before c.starts c.ends k) (bytes_before c.starts c.ends (suc k))

-- the slice s, with these alignments in front of the columns that were passed for it, is the piece at k
pub record IsPiece (c : PieceColumns) (k : ℕ) (starts₀ ends₀ : List ℕ) (s : NoteSlice)
    (starts ends : List ℕ) : Type 0 where
  pub start_is : normalized_start_of s ≡ get_or c.starts k 0
  pub end_is : normalized_end_of s ≡ get_or c.ends k 0
  pub shift_is : s.original_shift ≡ get_or c.shifts k 0
  pub length_is : original_length s ≡ get_or c.lengths k 0
  pub starts_are : starts ≡ overlay (stretch_of c k c.alignment_starts) starts₀
  pub ends_are : ends ≡ overlay (stretch_of c k c.alignment_ends) ends₀

-- an answer of `slice` is that slice
pub record Answers (c : PieceColumns) (k : ℕ) (starts₀ ends₀ : List ℕ) (r : Result NoteSlice Refusal)
    (starts ends : List ℕ) : Type 0 where
  pub slice : NoteSlice
  pub answer : r ≡ Ok slice
  pub is_piece : IsPiece c k starts₀ ends₀ slice starts ends

-- CLAIM: take a call of `split` that cut a note, and any of its pieces. A call of `slice` on the note, with the piece's
-- cleaned range and columns that have room for it, is accepted, and answers and writes that very piece.
abbrev pub PieceIsSlice : Type 0
PieceIsSlice =
    (most : ℕ) (n : Note) (list : List ℕ) (behavior : SplitDelimiterBehavior) (empty : EmptyPieces)
    (c₀ c : PieceColumns) (pieces alignments : ℕ) → Splitting most n list behavior empty c₀ (Ok (pieces, alignments)) c
    → (k : ℕ) → k < pieces → (starts₀ ends₀ : List ℕ) (r : Result NoteSlice Refusal) (starts ends : List ℕ)
    → get_or c.ends k 0 - get_or c.starts k 0 ≤ length starts₀
    → get_or c.ends k 0 - get_or c.starts k 0 ≤ length ends₀
    → Slicing most n (in_normalized (get_or c.starts k 0) (get_or c.ends k 0)) starts₀ ends₀ r starts ends
    → Answers c k starts₀ ends₀ r starts ends
