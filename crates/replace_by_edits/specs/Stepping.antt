-- What the inner functions are told and say: one place edited, and the note in between, which is in front of one of two
-- sets of scratch buffers.
use Rattle.std.specs.Prelude.{ℕ, ◌+◌, ◌-◌, ◌≤◌, ◌≡◌, true, false, cond, List, [], length, take}
use Rattle.buffers.specs.Splice.{splice, overlay}
use Rattle.utf8.specs.Formed.{well_formed, char_range}
use Rattle.note.specs.Notes.{Note, lent}
use Rattle.pattern.specs.declared.Place.{Place}
use Rattle.pattern.specs.Entries.{places_of}
use Rattle.pattern.specs.Places.{covers}
use Rattle.edit_steps.specs.Laying.{Editable}
use Rattle.replace.specs.Replacing.{carried}
use Rattle.replace.specs.Sizes.{places_size}
use Rattle.replace_by_edits.specs.declared.road.Current.{Current}
use Rattle.replace_by_edits.specs.Road.{edited_place, road_back}
use Rattle.replace_by_edits.specs.ByEdits.{Scratch, scratch_room, ScratchLeft}
use Rattle.note.specs.Refusals.{Accepted}

-- room for a content at a place that begins at `at` and ends at `to`, in the two columns that it carries something of
pub record AddedRoom (starts ends : List ℕ) (to : ℕ) (content out starts₀ ends₀ : List ℕ) (at : ℕ) : Type 0 where
  pub onward : at ≤ to
  pub in_starts : to ≤ length starts
  pub in_ends : to ≤ length ends
  pub text_room : at + length content ≤ length out
  pub starts_room : at + length content ≤ length starts₀
  pub ends_room : at + length content ≤ length ends₀

pub record AddedLaid (starts ends : List ℕ) (to : ℕ) (content out₀ starts₀ ends₀ : List ℕ) (at : ℕ)
    (out starts₁ ends₁ : List ℕ) : Type 0 where
  pub text_is : out ≡ splice out₀ at content
  pub starts_are : starts₁ ≡ splice starts₀ at (carried (length content) starts to)
  pub ends_are : ends₁ ≡ splice ends₀ at (carried (length content) ends to)

-- what an edit needs of a note, a place and a content
pub record PlaceReady (n : Note) (p : Place) (content : List ℕ) : Type 0 where
  pub editable : Editable n.normalized n.starts n.ends
  pub lies : char_range n.normalized p.start.0 p.end.0 ≡ true
  pub formed : well_formed content ≡ true

-- how many bytes it leaves
abbrev pub size_left : Note → Place → List ℕ → ℕ
size_left n p content = p.start.0 + length content + (length n.normalized - p.end.0)

pub record PlaceEditRoom (n : Note) (p : Place) (content out starts₀ ends₀ : List ℕ) : Type 0 where
  pub ready : PlaceReady n p content
  pub text_room : size_left n p content ≤ length out
  pub starts_room : size_left n p content ≤ length starts₀
  pub ends_room : size_left n p content ≤ length ends₀

-- a note is in front of three buffers
pub record NoteLaid (m : Note) (out₀ starts₀ ends₀ : List ℕ) (r : ℕ) (out starts ends : List ℕ) : Type 0 where
  pub reached : r ≡ length m.normalized
  pub text_is : out ≡ overlay m.normalized out₀
  pub starts_are : starts ≡ overlay m.starts starts₀
  pub ends_are : ends ≡ overlay m.ends ends₀

-- the note is in front of the first set
abbrev pub at_first : ℕ → Current
at_first len = record { len = len; in_second = false }

-- the set that holds the note in between, what is in front of a set, and that note; transcript and shift play no part
abbrev pub held_set : Current → Scratch → Scratch → Scratch
held_set h a b = cond h.in_second b a

abbrev pub front_note : ℕ → Scratch → Note
front_note len a = lent [] (take len a.text) (take len a.starts) (take len a.ends) 0

abbrev pub held_note : Current → Scratch → Scratch → Note
held_note h a b = front_note h.len (held_set h a b)

-- both sets have as many elements as before
pub record SameRooms (a₀ b₀ a b : Scratch) : Type 0 where
  pub first_same : ScratchLeft Accepted a₀ a
  pub second_same : ScratchLeft Accepted b₀ b

-- the sets hold this note
pub record Holds (m : Note) (h : Current) (a b : Scratch) : Type 0 where
  pub note_is : held_note h a b ≡ m
  pub inside : h.len ≤ scratch_room a b

pub record StepReady (h : Current) (p : Place) (content : List ℕ) (a b : Scratch) : Type 0 where
  pub ready : PlaceReady (held_note h a b) p content
  pub inside : h.len ≤ scratch_room a b
  pub room : size_left (held_note h a b) p content ≤ scratch_room a b

pub record StepTaken (h : Current) (p : Place) (content : List ℕ) (a₀ b₀ : Scratch) (r : Current) (a b : Scratch)
    : Type 0 where
  pub holds : Holds (edited_place content p.start.0 p.end.0 (held_note h a₀ b₀)) r a b
  pub rooms : SameRooms a₀ b₀ a b

-- room for the note that the sets hold
pub record HeldRoom (h : Current) (a b : Scratch) (out starts₀ ends₀ : List ℕ) : Type 0 where
  pub inside : h.len ≤ scratch_room a b
  pub text_room : h.len ≤ length out
  pub starts_room : h.len ≤ length starts₀
  pub ends_room : h.len ≤ length ends₀

-- a note that the places of a list cover, and room for all that is in between
pub record RoadReady (n : Note) (list content : List ℕ) (a b : Scratch) : Type 0 where
  pub editable : Editable n.normalized n.starts n.ends
  pub covered : covers n.normalized list ≡ true
  pub formed : well_formed content ≡ true
  pub room : length n.normalized + places_size (length content) (places_of list) ≤ scratch_room a b

pub record RoadTaken (n : Note) (list content : List ℕ) (a₀ b₀ : Scratch) (r : Current) (a b : Scratch) : Type 0 where
  pub holds : Holds (road_back (places_of list) content n) r a b
  pub rooms : SameRooms a₀ b₀ a b

-- and room for the result
pub record RoadRoom (n : Note) (list content out starts₀ ends₀ : List ℕ) (a b : Scratch) : Type 0 where
  pub ready : RoadReady n list content a b
  pub text_room : places_size (length content) (places_of list) ≤ length out
  pub starts_room : places_size (length content) (places_of list) ≤ length starts₀
  pub ends_room : places_size (length content) (places_of list) ≤ length ends₀

pub record RoadLaid (n : Note) (list content out₀ starts₀ ends₀ : List ℕ) (a₀ b₀ : Scratch) (r : ℕ)
    (out starts ends : List ℕ) (a b : Scratch) : Type 0 where
  pub laid : NoteLaid (road_back (places_of list) content n) out₀ starts₀ ends₀ r out starts ends
  pub rooms : SameRooms a₀ b₀ a b
