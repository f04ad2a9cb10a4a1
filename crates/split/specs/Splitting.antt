-- RULES 11.5, 11.6: what a list and a behaviour cut a note into, when that is refused, and the call (Rust:
-- `NormalizedString::split`, `PreTokenizedString::split`).
use Rattle.std.specs.Prelude.{ℕ, ◌-◌, min, ◌≡◌, Bool, length, Result, Ok, Err}
use mathlib.Core.List.{List, map, flat_map}
use Rattle.note.specs.declared.Refusal.{Refusal}
use Rattle.note.specs.Refusals.{also, verdict, after, unless_refused, Verdict}
use Rattle.note.specs.Notes.{Note}
use Rattle.note.specs.Faults.{note_faults, room_faults}
use Rattle.convert.specs.declared.Range.TheVariants.{Normalized}
use Rattle.pattern.specs.declared.Place.{Place}
use Rattle.pattern.specs.Entries.{places_of}
use Rattle.pattern.specs.Places.{list_faults}
use Rattle.slice.specs.declared.NoteSlice.{NoteSlice}
use Rattle.slice.specs.Slicing.{sliced, sliced_column, original_start_of, original_end_of}
use Rattle.behaviors.specs.declared.SplitDelimiterBehavior.{SplitDelimiterBehavior}
use Rattle.behaviors.specs.declared.EmptyPieces.{EmptyPieces}
use Rattle.behaviors.specs.Splits.{pieces}
use Rattle.behaviors.specs.Joining.{starts_of, ends_of}

-- RULES 11.5: a piece is the slice of its cleaned range (6)
unfoldable pub piece_of : Note → Place → NoteSlice
piece_of n p = sliced n (Normalized p.start p.end)

-- how many bytes its transcript has
unfoldable pub original_length : NoteSlice → ℕ
original_length s = original_end_of s - original_start_of s

-- RULES 11.6: the pieces of a note in columns: for each piece its cleaned start and end, its shift and its transcript's
-- length; and the pieces' alignments, end to end
pub record PieceColumns : Type 0 where
  pub starts : List ℕ
  pub ends : List ℕ
  pub shifts : List ℕ
  pub lengths : List ℕ
  pub alignment_starts : List ℕ
  pub alignment_ends : List ℕ

-- six passed columns, by their numbers
abbrev pub columns : List ℕ → List ℕ → List ℕ → List ℕ → List ℕ → List ℕ → PieceColumns
columns starts ends shifts lengths alignment_starts alignment_ends =
    record {
      starts = starts;
      ends = ends;
      shifts = shifts;
      lengths = lengths;
      alignment_starts = alignment_starts;
      alignment_ends = alignment_ends;
    }

unfoldable pub cut : Note → List Place → PieceColumns
cut n ps =
    columns (starts_of ps) (ends_of ps)
    (map (λ p. (piece_of n p).original_shift) ps) (map (λ p. original_length (piece_of n p)) ps)
    (flat_map (λ p. sliced_column (piece_of n p) n.starts) ps) (flat_map (λ p. sliced_column (piece_of n p) n.ends) ps)

-- the note cut by a list under a behaviour
abbrev pub cut_by : Note → List ℕ → SplitDelimiterBehavior → EmptyPieces → PieceColumns
cut_by n list behavior empty = cut n (pieces behavior empty (places_of list))

-- the refusals: the note's, then the list's, then the rooms' for the pieces and for their alignments
abbrev pub split_faults : ℕ → Note → List ℕ → SplitDelimiterBehavior → EmptyPieces → ℕ → ℕ → Refusal → Bool
split_faults most n list behavior empty for_pieces for_alignments =
    also (note_faults most n)
    (also (list_faults n.normalized list)
    (also (room_faults (length (cut_by n list behavior empty).starts) for_pieces)
    (room_faults (length (cut_by n list behavior empty).alignment_starts) for_alignments)))

-- how many pieces there are, and how many alignments
abbrev pub cut_sizes : PieceColumns → Result (ℕ × ℕ) Refusal
cut_sizes c = Ok (length c.starts, length c.alignment_starts)

-- the room that they have for pieces, and the room for alignments
abbrev pub piece_room : PieceColumns → ℕ
piece_room c = min (min (length c.starts) (length c.ends)) (min (length c.shifts) (length c.lengths))

abbrev pub alignment_room : PieceColumns → ℕ
alignment_room c = min (length c.alignment_starts) (length c.alignment_ends)

-- THE CALL: limit, note, list, behaviour, what becomes of empty pieces, the passed columns before, the answer, the
-- columns after
pub record Splitting (most : ℕ) (n : Note) (list : List ℕ) (behavior : SplitDelimiterBehavior) (empty : EmptyPieces)
    (c₀ : PieceColumns) (r : Result (ℕ × ℕ) Refusal) (c : PieceColumns) : Type 0 where
  pub says : Verdict
  pub says_is : says ≡ verdict (split_faults most n list behavior empty (piece_room c₀) (alignment_room c₀))
  pub answer : r ≡ unless_refused Err says (cut_sizes (cut_by n list behavior empty))
  pub starts_are : c.starts ≡ after says (cut_by n list behavior empty).starts c₀.starts
  pub ends_are : c.ends ≡ after says (cut_by n list behavior empty).ends c₀.ends
  pub shifts_are : c.shifts ≡ after says (cut_by n list behavior empty).shifts c₀.shifts
  pub lengths_are : c.lengths ≡ after says (cut_by n list behavior empty).lengths c₀.lengths
  pub alignment-starts-are :
      c.alignment_starts ≡ after says (cut_by n list behavior empty).alignment_starts c₀.alignment_starts
  pub alignment-ends-are :
      c.alignment_ends ≡ after says (cut_by n list behavior empty).alignment_ends c₀.alignment_ends
