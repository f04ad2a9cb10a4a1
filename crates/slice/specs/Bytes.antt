-- Which bytes a slice has, which alignments and which shift; and a slice of a slice.
use Rattle.std.specs.Prelude.{ℕ, ◌+◌, ◌-◌, ◌≤◌, ◌<◌, ◌≡◌, length, get_or, Ok}
use Rattle.note.specs.Refusals.{verdict, Accepted}
use Rattle.note.specs.Notes.{Note, start_at, end_at}
use Rattle.convert.specs.declared.Range.{Range}
use Rattle.convert.specs.declared.Range.TheVariants.{Original, Normalized}
use Rattle.convert.specs.Converting.{in_normalized, start_of, end_of, converted}
use Rattle.slice.specs.declared.NoteSlice.{NoteSlice}
use Rattle.slice.specs.Slicing.{
  valid_range,
  sliced,
  slice_note,
  slice_faults,
  original_start_of,
  original_end_of,
  normalized_start_of,
  normalized_end_of,
}

-- a slice has the transcript's bytes a..b and the cleaned text's bytes c..d
pub record Has (s : NoteSlice) (a b c d : ℕ) : Type 0 where
  pub original_from : original_start_of s ≡ a
  pub original_to : original_end_of s ≡ b
  pub normalized_from : normalized_start_of s ≡ c
  pub normalized_to : normalized_end_of s ≡ d

-- a range that has a byte: its own bytes, and in the other text those that they came from, or became (RULES 4.7)
abbrev pub HasBytes : Note → Range → NoteSlice → Type 0
HasBytes n (Normalized a b) s = Has s (start_at n a.0) (end_at n (b.0 - 1)) a.0 b.0
HasBytes n (Original a b) s =
    Has s a.0 b.0 (normalized_start_of s) (normalized_end_of s)
    × (converted n.starts n.ends (Original a b) ≡ Ok (in_normalized (normalized_start_of s) (normalized_end_of s)))

-- CLAIM: which bytes an accepted slice has. An empty range gives none, at the same number in both texts.
abbrev pub SliceBytes : Type 0
SliceBytes =
    (most : ℕ) (n : Note) (range : Range) (room : ℕ) → verdict (slice_faults most n range room) ≡ Accepted
    → (start_of range ≤ end_of range)
    × (start_of range ≡ end_of range → Has (sliced n range) (start_of range) (end_of range) (start_of range) (end_of range))
    × (start_of range < end_of range → HasBytes n range (sliced n range))

-- what the note m has at a byte of either text, the note n has at the byte that is a or c further on; and what m says
-- of its transcript, n says of its own
pub record Stands (m n : Note) (a c : ℕ) : Type 0 where
  pub original_byte : (i : ℕ) → i < length m.original → get_or m.original i 0 ≡ get_or n.original (a + i) 0
  pub normalized_byte : (i : ℕ) → i < length m.normalized → get_or m.normalized i 0 ≡ get_or n.normalized (c + i) 0
  pub start : (i : ℕ) → i < length m.normalized → start_at m i + a ≡ start_at n (c + i)
  pub end : (i : ℕ) → i < length m.normalized → end_at m i + a ≡ end_at n (c + i)
  pub shift : m.original_shift ≡ n.original_shift + a

-- CLAIM: where an accepted slice is in its note. Its alignments and its shift lead to the same bytes of the
-- transcript as the note's.
abbrev pub SliceStands : Type 0
SliceStands =
    (most : ℕ) (n : Note) (range : Range) (room : ℕ) → verdict (slice_faults most n range room) ≡ Accepted
    → Stands (slice_note n (sliced n range)) n (original_start_of (sliced n range)) (normalized_start_of (sliced n range))

-- the cleaned bytes c..d of a note as a note
abbrev pub normalized_slice : Note → ℕ → ℕ → Note
normalized_slice n c d = slice_note n (sliced n (in_normalized c d))

-- CLAIM: a cleaned slice of a cleaned slice is the cleaned slice of the note at the added numbers, and its range is
-- valid where that one is, if neither is empty.
abbrev pub SliceOfSlice : Type 0
SliceOfSlice =
    (most : ℕ) (n : Note) (c d e f room : ℕ) → verdict (slice_faults most n (in_normalized c d) room) ≡ Accepted
    → c < d → e < f → f ≤ d - c
    → (valid_range (normalized_slice n c d).original (normalized_slice n c d).normalized (in_normalized e f)
    ≡ valid_range n.original n.normalized (in_normalized (c + e) (c + f)))
    × (normalized_slice (normalized_slice n c d) e f ≡ normalized_slice n (c + e) (c + f))
