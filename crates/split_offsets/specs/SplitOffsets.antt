-- RULES 13 (Rust: `PreTokenizedString::get_splits`, without tokens): where the pieces of a note stand, in bytes or in
-- characters.
use Rattle.std.specs.Prelude.{ℕ, ◌+◌, ◌-◌, min, ◌≡◌, Bool, false, List, [], ◌∷◌, map, length, Result, Ok, Err}
use Rattle.note.specs.declared.Refusal.{Refusal}
use Rattle.note.specs.Refusals.{also, verdict, unless_refused, after, Verdict, Accepted}
use Rattle.note.specs.Notes.{Note, start_at, end_at}
use Rattle.note.specs.Faults.{note_faults, room_faults}
use Rattle.convert.specs.declared.OffsetReferential.{OffsetReferential}
use Rattle.convert.specs.declared.OffsetReferential.TheVariants.{Original, Normalized}
use Rattle.pattern.specs.declared.Place.{Place}
use Rattle.pattern.specs.Entries.{places_of}
use Rattle.pattern.specs.Places.{list_faults}
use Rattle.behaviors.specs.declared.SplitDelimiterBehavior.{SplitDelimiterBehavior}
use Rattle.behaviors.specs.declared.EmptyPieces.TheVariants.{Dropped}
use Rattle.behaviors.specs.Splits.{pieces}
use Rattle.behaviors.specs.Joining.{drops_matches, starts_of, ends_of}
use Rattle.split.specs.Splitting.{piece_of, original_length}
use Rattle.char_columns.specs.declared.OffsetType.{OffsetType}
use Rattle.char_columns.specs.declared.OffsetType.TheVariants.{Byte}
use Rattle.char_columns.specs.Numbers.{start_number, end_number}

-- RULES 13.1: the pieces of a list, of which those without a byte are dropped
abbrev pub split_pieces : List ℕ → SplitDelimiterBehavior → List Place
split_pieces list behavior = pieces behavior Dropped (places_of list)

unfoldable pub place_length : Place → ℕ
place_length p = p.end.0 - p.start.0

-- RULES 13.2: a piece in bytes. In the transcript, from the piece's shift on, as many as its transcript has (Rust:
-- `offsets_original`); in the cleaned text, from the sum of the sizes of the pieces before it on
unfoldable pub start_byte : Note → OffsetReferential → ℕ → Place → ℕ
start_byte n Original sum p = (piece_of n p).original_shift
start_byte n Normalized sum p = sum

unfoldable pub end_byte : Note → OffsetReferential → ℕ → Place → ℕ
end_byte n Original sum p = (piece_of n p).original_shift + original_length (piece_of n p)
end_byte n Normalized sum p = sum + place_length p

-- a number for each piece, from the sum of the sizes before it on
unfoldable pub each_piece : (ℕ → ℕ → ℕ) → Note → OffsetReferential → ℕ → List Place → List ℕ
each_piece number n side sum [] = []
each_piece number n side sum (p ∷ ps) =
    number (start_byte n side sum p) (end_byte n side sum p) ∷ each_piece number n side (sum + place_length p) ps

abbrev pub split_starts : Note → OffsetReferential → OffsetType → List Place → List ℕ
split_starts n side unit ps = each_piece (start_number n.original unit) n side 0 ps

abbrev pub split_ends : Note → OffsetReferential → OffsetType → List Place → List ℕ
split_ends n side unit ps = each_piece (end_number n.original unit) n side 0 ps

-- the refusals: the note's, then the list's, then the room's
abbrev pub splits_faults : ℕ → Note → List ℕ → SplitDelimiterBehavior → ℕ → Refusal → Bool
splits_faults most n list behavior room =
    also (note_faults most n)
    (also (list_faults n.normalized list)
    (room_faults (length (split_pieces list behavior)) room))

-- THE CALL: limit, note, list, behaviour, what is asked, the passed columns before, the answer, the passed columns after
pub record GetSplits (most : ℕ) (n : Note) (list : List ℕ) (behavior : SplitDelimiterBehavior)
    (side : OffsetReferential) (unit : OffsetType) (starts₀ ends₀ : List ℕ) (r : Result ℕ Refusal)
    (starts ends : List ℕ) : Type 0 where
  pub says : Verdict
  pub says_is : says ≡ verdict (splits_faults most n list behavior (min (length starts₀) (length ends₀)))
  pub answer : r ≡ unless_refused Err says (Ok (length (split_pieces list behavior)))
  pub starts_are : starts ≡ after says (split_starts n side unit (split_pieces list behavior)) starts₀
  pub ends_are : ends ≡ after says (split_ends n side unit (split_pieces list behavior)) ends₀

-- CLAIM: in the bytes of the transcript a piece goes from where the alignment of its first cleaned byte starts to where
-- that of its last one ends, both after the shift.
abbrev pub SplitsOriginal : Type 0
SplitsOriginal =
    (most : ℕ) (n : Note) (list : List ℕ) (behavior : SplitDelimiterBehavior) (room : ℕ)
    → verdict (splits_faults most n list behavior room) ≡ Accepted
    → (split_starts n Original Byte (split_pieces list behavior)
    ≡ map (λ p. n.original_shift + start_at n p.start.0) (split_pieces list behavior))
    × (split_ends n Original Byte (split_pieces list behavior)
    ≡ map (λ p. n.original_shift + end_at n (p.end.0 - 1)) (split_pieces list behavior))

-- CLAIM: in the bytes of the cleaned text a piece has its own start and end under a behaviour that drops no match.
-- (Under `Removed` the pieces are counted as if each came straight after the one before it.)
abbrev pub SplitsNormalized : Type 0
SplitsNormalized =
    (most : ℕ) (n : Note) (list : List ℕ) (behavior : SplitDelimiterBehavior) (room : ℕ)
    → verdict (splits_faults most n list behavior room) ≡ Accepted → drops_matches behavior ≡ false
    → (split_starts n Normalized Byte (split_pieces list behavior) ≡ starts_of (split_pieces list behavior))
    × (split_ends n Normalized Byte (split_pieces list behavior) ≡ ends_of (split_pieces list behavior))
