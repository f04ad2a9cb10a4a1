-- RULES 6 (Rust: `validate_range`, `slice`): the part of a note that a range of either text names, as a note of its
-- own.
use Rattle.std.specs.Prelude.{ℕ, ◌+◌, ◌-◌, min, ◌≡◌, Bool, ◌&&◌, ◌||◌, not, List, [], ◌∷◌, ltb, length, Result, Ok, Err}
use Rattle.buffers.specs.Splice.{part}
use Rattle.utf8.specs.Formed.{boundary}
use Rattle.note.specs.declared.Refusal.{Refusal}
use Rattle.note.specs.declared.Refusal.TheVariants.{NotBoundary, Missing}
use Rattle.note.specs.Refusals.{none, meets, also, verdict, unless_refused, after, Verdict, Accepted}
use Rattle.note.specs.Notes.{Note, lent, Sound}
use Rattle.note.specs.Faults.{note_faults, room_faults}
use Rattle.convert.specs.declared.Range.{Range}
use Rattle.convert.specs.Converting.{start_of, end_of, start_in, end_in, missing}
use Rattle.convert.specs.Converting.{as_original, as_normalized}
use Rattle.get_range.specs.Reading.{named_text}
use Rattle.slice.specs.declared.NoteSlice.{NoteSlice}

-- RULES 6.1: both ends of the range are boundaries of the text that it names (Rust: `validate_range`)
unfoldable pub valid_range : List ℕ → List ℕ → Range → Bool
valid_range original normalized range =
    boundary (named_text original normalized range) (start_of range)
    && boundary (named_text original normalized range) (end_of range)

-- a slice's numbers
abbrev pub original_start_of : NoteSlice → ℕ
original_start_of s = s.original_start.0

abbrev pub original_end_of : NoteSlice → ℕ
original_end_of s = s.original_end.0

abbrev pub normalized_start_of : NoteSlice → ℕ
normalized_start_of s = s.normalized_start.0

abbrev pub normalized_end_of : NoteSlice → ℕ
normalized_end_of s = s.normalized_end.0

-- RULES 6.2: a range in each of the two texts, and the shift, which grows by what is before it in the transcript
unfoldable pub slice_of : Result Range Refusal → Result Range Refusal → ℕ → NoteSlice
slice_of in_original in_normalized shift =
    record {
      original_start = record { 0 = start_in in_original };
      original_end = record { 0 = end_in in_original };
      normalized_start = record { 0 = start_in in_normalized };
      normalized_end = record { 0 = end_in in_normalized };
      original_shift = shift + start_in in_original;
    }

unfoldable pub sliced : Note → Range → NoteSlice
sliced n range =
    slice_of (as_original n.starts n.ends range) (as_normalized n.starts n.ends range) n.original_shift

-- RULES 6.3: numbers counted from `base` on
unfoldable pub lowered : ℕ → List ℕ → List ℕ
lowered base [] = []
lowered base (x ∷ xs) = (x - base) ∷ lowered base xs

-- what a slice has of a column: the numbers of its cleaned bytes, counted from where its transcript starts
unfoldable pub sliced_column : NoteSlice → List ℕ → List ℕ
sliced_column s column = lowered (original_start_of s) (part column (normalized_start_of s) (normalized_end_of s))

-- the slice as a note of its own
unfoldable pub slice_note : Note → NoteSlice → Note
slice_note n s =
    lent (part n.original (original_start_of s) (original_end_of s))
    (part n.normalized (normalized_start_of s) (normalized_end_of s))
    (sliced_column s n.starts) (sliced_column s n.ends) s.original_shift

-- how many cleaned bytes it has
abbrev pub slice_size : NoteSlice → ℕ
slice_size s = normalized_end_of s - normalized_start_of s

-- RULES 6.4: the range has no place in the other text, or ends past the cleaned text, as an empty one of the
-- transcript can
unfoldable pub unplaced : Result Range Refusal → Result Range Refusal → ℕ → Bool
unplaced in_original in_normalized size = missing in_original || missing in_normalized || ltb size (end_in in_normalized)

unfoldable pub slice_missing : Note → Range → Bool
slice_missing n range =
    unplaced (as_original n.starts n.ends range) (as_normalized n.starts n.ends range)
    (length n.normalized)

-- the refusals: the note's, then the range's, then the room's
abbrev pub slice_faults : ℕ → Note → Range → ℕ → Refusal → Bool
slice_faults most n range room =
    also (note_faults most n)
    (also (meets NotBoundary (not (valid_range n.original n.normalized range)) none)
    (also (meets Missing (slice_missing n range) none)
    (room_faults (slice_size (sliced n range)) room)))

-- THE CALL: limit, note and range, the passed columns before, the answer, the passed columns after
pub record Slicing (most : ℕ) (n : Note) (range : Range) (starts₀ ends₀ : List ℕ) (r : Result NoteSlice Refusal)
    (starts ends : List ℕ) : Type 0 where
  pub says : Verdict
  pub says_is : says ≡ verdict (slice_faults most n range (min (length starts₀) (length ends₀)))
  pub answer : r ≡ unless_refused Err says (Ok (sliced n range))
  pub starts_are : starts ≡ after says (sliced_column (sliced n range) n.starts) starts₀
  pub ends_are : ends ≡ after says (sliced_column (sliced n range) n.ends) ends₀

-- CLAIM: an accepted slice is a sound note. (Its shift may exceed the limit, which is no part of soundness.)
abbrev pub SliceSound : Type 0
SliceSound =
    (most : ℕ) (n : Note) (range : Range) (room : ℕ) → verdict (slice_faults most n range room) ≡ Accepted
    → Sound (slice_note n (sliced n range))
