-- RULES 16: the call that takes the road from the last place to the first, in scratch buffers; what it has in common
-- with replacing.
use Rattle.std.specs.Prelude.{ℕ, ◌+◌, ◌≤◌, min, ◌≡◌, Bool, List, length, Result, Ok, Err}
use Rattle.note.specs.declared.Refusal.{Refusal}
use Rattle.note.specs.Refusals.{least, also, verdict, after, Verdict}
use Rattle.note.specs.Notes.{Note}
use Rattle.note.specs.Faults.{room_faults}
use Rattle.pattern.specs.Entries.{places_of}
use Rattle.replace.specs.Replacing.{replaced, replace_faults, publication, Replacing}
use Rattle.replace.specs.Blanking.{Equal, Agree, published}
use Rattle.replace_by_edits.specs.Road.{road_back, RoadBackReplaces}

-- a set of scratch buffers: for a text, its starts and its ends
pub record Scratch : Type 0 where
  pub text : List ℕ
  pub starts : List ℕ
  pub ends : List ℕ

abbrev pub scratch : List ℕ → List ℕ → List ℕ → Scratch
scratch text starts ends = record { text = text; starts = starts; ends = ends }

-- the room that two sets have for one size
abbrev pub scratch_room : Scratch → Scratch → ℕ
scratch_room a b =
    min (least (length a.text) (length a.starts) (length a.ends))
    (least (length b.text) (length b.starts) (length b.ends))

-- what scratch has to hold: the cleaned text and the result together
abbrev pub scratch_size : Note → List ℕ → List ℕ → ℕ
scratch_size n list content = length n.normalized + length (replaced (places_of list) content n).text

-- the refusals: those of replacing; and 9 where a scratch buffer has too few elements, whether an edit needs it or not
abbrev pub by_edits_faults : ℕ → Note → List ℕ → List ℕ → ℕ → ℕ → Refusal → Bool
by_edits_faults most n list content room scratch_room =
    also (replace_faults most n list content room) (room_faults (scratch_size n list content) scratch_room)

-- a scratch buffer before and after: a refusal leaves it; else its length stays, and what it holds is LEFT TO THE
-- PROGRAM
abbrev pub LeftOver : Verdict → List ℕ → List ℕ → Type 0
LeftOver (Ok tt) d₀ d = length d ≡ length d₀
LeftOver (Err k) d₀ d = d ≡ d₀

pub record ScratchLeft (says : Verdict) (a₀ a : Scratch) : Type 0 where
  pub text_left : LeftOver says a₀.text a.text
  pub starts_left : LeftOver says a₀.starts a.starts
  pub ends_left : LeftOver says a₀.ends a.ends

-- THE CALL: limit, note, list and content, the passed buffers and two sets of scratch before, the answer, the passed
-- buffers and the two sets after
pub record ReplacingByEdits (most : ℕ) (n : Note) (list content out₀ starts₀ ends₀ : List ℕ) (a₀ b₀ : Scratch)
    (r : Result ℕ Refusal) (out starts ends : List ℕ) (a b : Scratch) : Type 0 where
  pub says : Verdict
  pub says_is :
      says
      ≡ verdict (by_edits_faults most n list content (least (length out₀) (length starts₀) (length ends₀))
      (scratch_room a₀ b₀))
  pub answer : r ≡ publication says (length (road_back (places_of list) content n).normalized)
  pub text_is : out ≡ after says (road_back (places_of list) content n).normalized out₀
  pub starts_are : starts ≡ after says (road_back (places_of list) content n).starts starts₀
  pub ends_are : ends ≡ after says (road_back (places_of list) content n).ends ends₀
  pub first_left : ScratchLeft says a₀ a
  pub second_left : ScratchLeft says b₀ b

-- CLAIM: two calls with the same note, list, content and buffers, one by this road with scratch that is large enough,
-- and one of replacing: they give the same answer, the same refusal too, and leave the same in the three buffers.
abbrev pub RoadCallReplaces : Type 0
RoadCallReplaces =
    (most : ℕ) (n : Note) (list content out₀ starts₀ ends₀ : List ℕ) (a₀ b₀ a b : Scratch) (r q : Result ℕ Refusal)
    (out starts ends out₁ starts₁ ends₁ : List ℕ)
    → ReplacingByEdits most n list content out₀ starts₀ ends₀ a₀ b₀ r out starts ends a b
    → Replacing most n list content out₀ starts₀ ends₀ q out₁ starts₁ ends₁
    → scratch_size n list content ≤ scratch_room a₀ b₀
    → (r ≡ q) × (out ≡ out₁) × (starts ≡ starts₁) × (ends ≡ ends₁)

-- CLAIM: the road is replacing, as a definition and as a call.
abbrev pub RoadIsReplaced : Type 0
RoadIsReplaced = RoadBackReplaces × RoadCallReplaces

-- CLAIM: the blanking claim of two calls of this road. Two notes, one list and one content, both accepted: the
-- published notes are equal exactly when the notes agree (replace's specs/Blanking has the words).
abbrev pub RoadBlanking : Type 0
RoadBlanking =
    (most : ℕ) (n m : Note) (list content : List ℕ) (a b : ℕ)
    (outₙ₀ startsₙ₀ endsₙ₀ outₙ startsₙ endsₙ outₘ₀ startsₘ₀ endsₘ₀ outₘ startsₘ endsₘ : List ℕ)
    (firstₙ₀ secondₙ₀ firstₙ secondₙ firstₘ₀ secondₘ₀ firstₘ secondₘ : Scratch)
    → ReplacingByEdits most n list content outₙ₀ startsₙ₀ endsₙ₀ firstₙ₀ secondₙ₀ (Ok a) outₙ startsₙ endsₙ
    firstₙ secondₙ
    → ReplacingByEdits most m list content outₘ₀ startsₘ₀ endsₘ₀ firstₘ₀ secondₘ₀ (Ok b) outₘ startsₘ endsₘ
    firstₘ secondₘ
    → (Equal (published a outₙ startsₙ endsₙ) (published b outₘ startsₘ endsₘ) → Agree n m (places_of list) content)
    × (Agree n m (places_of list) content → Equal (published a outₙ startsₙ endsₙ) (published b outₘ startsₘ endsₘ))
