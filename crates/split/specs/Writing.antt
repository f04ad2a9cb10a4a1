-- What the inner functions of `split` are told and say: the pieces' columns by their cleaned starts and ends.
use Rattle.std.specs.Prelude.{ℕ, ◌+◌, ◌-◌, ◌≤◌, ◌<◌, ◌≡◌, cond, List, [], ◌∷◌, ◌++◌, eqb, length, get_or, Result}
use Rattle.buffers.specs.Splice.{part, overlay}
use Rattle.buffers.specs.Over.{Source}
use Rattle.note.specs.Notes.{Note}
use Rattle.slice.specs.Slicing.{lowered}
use Rattle.behaviors.specs.declared.SplitDelimiterBehavior.{SplitDelimiterBehavior}
use Rattle.behaviors.specs.declared.EmptyPieces.{EmptyPieces}
use Rattle.split.specs.Splitting.{PieceColumns, cut_by, cut_sizes}
use Rattle.split.specs.PieceSlices.{bytes_before}
use Rattle.note.specs.declared.Refusal.{Refusal}

-- where the transcript of the cleaned bytes a..b starts and where it ends; an empty range is its own numbers
unfoldable pub from_start : List ℕ → ℕ → ℕ → ℕ
from_start starts a b = cond (eqb a b) a (get_or starts a 0)

unfoldable pub to_end : List ℕ → ℕ → ℕ → ℕ
to_end ends a b = cond (eqb a b) b (get_or ends (b - 1) 0)

-- what a piece a..b gives into each column
unfoldable pub shift_of : List ℕ → ℕ → ℕ → ℕ → List ℕ
shift_of starts shift a b = (shift + from_start starts a b) ∷ []

unfoldable pub length_of : List ℕ → List ℕ → ℕ → ℕ → List ℕ
length_of starts ends a b = (to_end ends a b - from_start starts a b) ∷ []

unfoldable pub lowered_column : List ℕ → List ℕ → ℕ → ℕ → List ℕ
lowered_column starts column a b = lowered (from_start starts a b) (part column a b)

-- what all pieces give, one after the other
unfoldable pub end_to_end : (ℕ → ℕ → List ℕ) → List ℕ → List ℕ → List ℕ
end_to_end f [] to = []
end_to_end f (a ∷ from) [] = []
end_to_end f (a ∷ from) (b ∷ to) = f a b ++ end_to_end f from to

-- a cleaned range inside a text
pub record RangeInside (size a b : ℕ) : Type 0 where
  pub forward : a ≤ b
  pub most : b ≤ size

-- as many starts as ends, each pair inside the text
pub record PieceSpans (size : ℕ) (from to : List ℕ) : Type 0 where
  pub paired : length from ≡ length to
  pub each : (k : ℕ) → k < length from → RangeInside size (get_or from k 0) (get_or to k 0)

pub record ShiftsRoom (most : ℕ) (starts from to : List ℕ) (shift : ℕ) (out : List ℕ) : Type 0 where
  pub spans : PieceSpans (length starts) from to
  pub low : shift ≤ most
  pub room : length from ≤ length out

pub record LengthsRoom (starts ends from to out : List ℕ) : Type 0 where
  pub spans : PieceSpans (length starts) from to
  pub one_end : length ends ≡ length starts
  pub ordered : (k : ℕ) → k < length from
      → from_start starts (get_or from k 0) (get_or to k 0) ≤ to_end ends (get_or from k 0) (get_or to k 0)
  pub room : length from ≤ length out

pub record PieceColumnRoom (starts column from to : List ℕ) (until : ℕ) (out : List ℕ) : Type 0 where
  pub spans : PieceSpans (length starts) from to
  pub one_each : length column ≡ length starts
  pub above : (k i : ℕ) → k < length from → get_or from k 0 < get_or to k 0 → get_or from k 0 ≤ i → i < length column
      → from_start starts (get_or from k 0) (get_or to k 0) ≤ get_or column i 0
  pub below : until ≤ length (end_to_end (lowered_column starts column) from to)
  pub room : length (end_to_end (lowered_column starts column) from to) ≤ length out

-- room for all that pieces give beside their starts and ends, and that is there
pub record ColumnsRoom (most : ℕ) (starts ends from to : List ℕ) (shift until : ℕ)
    (shifts lengths out_starts out_ends : List ℕ) : Type 0 where
  pub shifts_room : ShiftsRoom most starts from to shift shifts
  pub lengths_room : LengthsRoom starts ends from to lengths
  pub starts_room : PieceColumnRoom starts starts from to until out_starts
  pub ends_room : PieceColumnRoom starts ends from to until out_ends

pub record ColumnsLaid (starts ends from to : List ℕ) (shift : ℕ) (shifts₀ lengths₀ out_starts₀ out_ends₀ : List ℕ)
    (shifts lengths out_starts out_ends : List ℕ) : Type 0 where
  pub shifts_are : shifts ≡ overlay (end_to_end (shift_of starts shift) from to) shifts₀
  pub lengths_are : lengths ≡ overlay (end_to_end (length_of starts ends) from to) lengths₀
  pub starts_are : out_starts ≡ overlay (end_to_end (lowered_column starts starts) from to) out_starts₀
  pub ends_are : out_ends ≡ overlay (end_to_end (lowered_column starts ends) from to) out_ends₀

-- pieces whose bytes can be counted
pub record Countable (most : ℕ) (from to : List ℕ) : Type 0 where
  pub paired : length from ≡ length to
  pub forward : (k : ℕ) → k < length from → get_or from k 0 ≤ get_or to k 0
  pub few : bytes_before from to (length from) ≤ most

-- a piece that has some bytes, at most 16, of a text that has 16 from there on; a block from `at` on stays below
-- `until`
pub record BlockFits (from to size at until : ℕ) : Type 0 where
  pub some : from < to
  pub few : to - from ≤ 16
  pub inside : 16 ≤ size - from
  pub below : at + 16 ≤ until

-- room for a block of a column, and no number of it is below `base`
pub record LoweredBlockRoom (column : List ℕ) (i base : ℕ) (out : List ℕ) (at : ℕ) : Type 0 where
  pub inside : i + 16 ≤ length column
  pub room : at + 16 ≤ length out
  pub above : (j : ℕ) → i ≤ j → j < length column → base ≤ get_or column j 0

-- room for a stretch of a column; where it has a number, none from there on is below `base`
pub record LoweredRoom (column : List ℕ) (from to base : ℕ) (out : List ℕ) (at until : ℕ) : Type 0 where
  pub source : Source column from to out at until
  pub above : from < to → (j : ℕ) → from ≤ j → j < length column → base ≤ get_or column j 0

-- room for a stretch of both columns
pub record BothRoom (starts ends : List ℕ) (from to base : ℕ) (out_starts out_ends : List ℕ) (at until : ℕ) : Type 0 where
  pub one_end : length ends ≡ length starts
  pub starts_room : LoweredRoom starts from to base out_starts at until
  pub ends_room : LoweredRoom ends from to base out_ends at until

-- the pieces stand in front of the six columns, and are counted
pub record CutInto (n : Note) (list : List ℕ) (behavior : SplitDelimiterBehavior) (empty : EmptyPieces)
    (c₀ : PieceColumns) (r : Result (ℕ × ℕ) Refusal) (c : PieceColumns) : Type 0 where
  pub answer : r ≡ cut_sizes (cut_by n list behavior empty)
  pub starts_are : c.starts ≡ overlay (cut_by n list behavior empty).starts c₀.starts
  pub ends_are : c.ends ≡ overlay (cut_by n list behavior empty).ends c₀.ends
  pub shifts_are : c.shifts ≡ overlay (cut_by n list behavior empty).shifts c₀.shifts
  pub lengths_are : c.lengths ≡ overlay (cut_by n list behavior empty).lengths c₀.lengths
  pub alignment-starts-are :
      c.alignment_starts ≡ overlay (cut_by n list behavior empty).alignment_starts c₀.alignment_starts
  pub alignment-ends-are :
      c.alignment_ends ≡ overlay (cut_by n list behavior empty).alignment_ends c₀.alignment_ends
