-- RULES 10: what a list and a content, the filler, make of a note, when that is refused, and the call (Rust:
-- `NormalizedString::replace`).
use Rattle.std.specs.Prelude.{ℕ, min, ◌≡◌, Bool, true, cond, List, [], ◌∷◌, ◌++◌, length, replicate, Result, Ok, Err}
use Rattle.buffers.specs.Splice.{part}
use Rattle.note.specs.declared.Refusal.{Refusal}
use Rattle.note.specs.Refusals.{least, also, verdict, after, Verdict, Accepted}
use Rattle.note.specs.Notes.{Note, lent, fits, before_end, Sound}
use Rattle.note.specs.Faults.{note_faults, string_faults, room_faults}
use Rattle.pattern.specs.declared.Place.{Place}
use Rattle.pattern.specs.Entries.{places_of}
use Rattle.pattern.specs.Places.{list_faults}

-- what one place gives: an unmatched one its elements of xs, a matched one what `fill` has for its end
unfoldable pub piece : (ℕ → List ℕ) → Place → List ℕ → List ℕ
piece fill p xs = cond p.matched (fill p.end.0) (part xs p.start.0 p.end.0)

-- what all places give, one after the other
unfoldable pub laid : (ℕ → List ℕ) → List Place → List ℕ → List ℕ
laid fill [] xs = []
laid fill (p ∷ ps) xs = piece fill p xs ++ laid fill ps xs

-- each byte of the content carries the alignment of the byte before its place's end
abbrev pub carried : ℕ → List ℕ → ℕ → List ℕ
carried count xs end = replicate count (before_end xs end)

-- a published note: text and alignments, no transcript and no shift
pub record PublishedNote : Type 0 where
  pub text : List ℕ
  pub starts : List ℕ
  pub ends : List ℕ

unfoldable pub replaced : List Place → List ℕ → Note → PublishedNote
replaced ps content n =
    record {
      text = laid (λ end. content) ps n.normalized;
      starts = laid (carried (length content) n.starts) ps n.starts;
      ends = laid (carried (length content) n.ends) ps n.ends;
    }

-- the refusals: the note's and the content's, then the list's and the room's
abbrev pub replace_faults : ℕ → Note → List ℕ → List ℕ → ℕ → Refusal → Bool
replace_faults most n list content room =
    also (also (note_faults most n) (string_faults content))
    (also (list_faults n.normalized list)
    (room_faults (length (replaced (places_of list) content n).text) (min most room)))

-- the answer: how many bytes are published, or the refusal
abbrev pub publication : Verdict → ℕ → Result ℕ Refusal
publication (Ok tt) size = Ok size
publication (Err k) size = Err k

-- THE CALL: limit, note, list and content, the passed buffers before, the answer, the passed buffers after
pub record Replacing (most : ℕ) (n : Note) (list content out₀ starts₀ ends₀ : List ℕ) (r : Result ℕ Refusal)
    (out starts ends : List ℕ) : Type 0 where
  pub says : Verdict
  pub says_is :
      says ≡ verdict (replace_faults most n list content (least (length out₀) (length starts₀) (length ends₀)))
  pub answer : r ≡ publication says (length (replaced (places_of list) content n).text)
  pub text_is : out ≡ after says (replaced (places_of list) content n).text out₀
  pub starts_are : starts ≡ after says (replaced (places_of list) content n).starts starts₀
  pub ends_are : ends ≡ after says (replaced (places_of list) content n).ends ends₀

-- the note that a replacement leaves: the transcript and the shift stay
abbrev pub resulting : Note → PublishedNote → Note
resulting n p = lent n.original p.text p.starts p.ends n.original_shift

-- CLAIM: an accepted replacement leaves a sound note, and one within the limit.
abbrev pub ReplacedSound : Type 0
ReplacedSound =
    (most : ℕ) (n : Note) (list content : List ℕ) (room : ℕ)
    → verdict (replace_faults most n list content room) ≡ Accepted
    → Sound (resulting n (replaced (places_of list) content n))
    × (fits most (resulting n (replaced (places_of list) content n)) ≡ true)
