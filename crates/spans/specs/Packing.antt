-- The two ends of a piece in one number; the columns in which a list's pieces are written.
use Rattle.std.specs.Prelude.{ℕ, ◌+◌, ◌*◌, ◌/◌, ◌%◌, ◌≤◌, ◌≡◌, Bool, true, List, map, length}
use Rattle.buffers.specs.Splice.{splice, overlay}
use Rattle.note.specs.Notes.{limit}
use Rattle.pattern.specs.declared.Place.{Place}
use Rattle.pattern.specs.Entries.{whole_list}
use Rattle.behaviors.specs.declared.SplitDelimiterBehavior.{SplitDelimiterBehavior}
use Rattle.behaviors.specs.declared.EmptyPieces.{EmptyPieces}
use Rattle.behaviors.specs.Joining.{starts_of, ends_of}
use Rattle.behaviors.specs.Runs.{piece_if, list_pieces, Listed}

-- one more than any position of a text within the limit
abbrev pub base : ℕ
base = limit + 1

-- the number of a piece, and its two ends in that number
unfoldable pub packed_span : Place → ℕ
packed_span p = p.start.0 + p.end.0 * base

unfoldable pub span_start : ℕ → ℕ
span_start span = span % base

unfoldable pub span_end : ℕ → ℕ
span_end span = span / base

abbrev pub packed_of : List Place → List ℕ
packed_of ps = map packed_span ps

-- a run inside a text, and room for it where it gives a piece
pub record RunRoom (most : ℕ) (met : Bool) (run : Place) (spans : List ℕ) (at : ℕ) : Type 0 where
  pub onward : run.start.0 ≤ run.end.0
  pub inside : run.end.0 ≤ most
  pub room : at + length (piece_if met run) ≤ length spans

-- what a run gives is in the column from `at` on
pub record RunLaid (met : Bool) (run : Place) (spans₀ : List ℕ) (at r : ℕ) (spans : List ℕ) : Type 0 where
  pub reach : r ≡ at + length (piece_if met run)
  pub spans_are : spans ≡ splice spans₀ at (packed_of (piece_if met run))

-- a judged list, and room for its pieces
pub record PackedRoom (most : ℕ) (list : List ℕ) (behavior : SplitDelimiterBehavior) (empty : EmptyPieces)
    (spans : List ℕ) : Type 0 where
  pub listed : Listed most list
  pub unbroken : whole_list list ≡ true
  pub room : length (list_pieces behavior empty list) ≤ length spans

-- all pieces stand in front of the column; each number has a piece's two ends
pub record PackedLaid (ps : List Place) (spans₀ : List ℕ) (r : ℕ) (spans : List ℕ) : Type 0 where
  pub reach : r ≡ length ps
  pub spans_are : spans ≡ overlay (packed_of ps) spans₀
  pub starts_in : map span_start (packed_of ps) ≡ starts_of ps
  pub ends_in : map span_end (packed_of ps) ≡ ends_of ps

-- numbers that are taken apart
pub record UnpackRoom (spans starts ends : List ℕ) : Type 0 where
  pub starts_room : length spans ≤ length starts
  pub ends_room : length spans ≤ length ends

pub record Unpacked (spans starts₀ ends₀ starts ends : List ℕ) : Type 0 where
  pub starts_are : starts ≡ overlay (map span_start spans) starts₀
  pub ends_are : ends ≡ overlay (map span_end spans) ends₀

-- room for a list's pieces in three columns
pub record SpansRoom (most : ℕ) (list : List ℕ) (behavior : SplitDelimiterBehavior) (empty : EmptyPieces)
    (spans starts ends : List ℕ) : Type 0 where
  pub packed_room : PackedRoom most list behavior empty spans
  pub starts_room : length (list_pieces behavior empty list) ≤ length starts
  pub ends_room : length (list_pieces behavior empty list) ≤ length ends

-- all pieces stand in front of the last two, and their numbers in front of the first
pub record SpansLaid (ps : List Place) (spans₀ starts₀ ends₀ : List ℕ) (r : ℕ)
    (spans starts ends : List ℕ) : Type 0 where
  pub reach : r ≡ length ps
  pub spans_are : spans ≡ overlay (packed_of ps) spans₀
  pub starts_are : starts ≡ overlay (starts_of ps) starts₀
  pub ends_are : ends ≡ overlay (ends_of ps) ends₀
