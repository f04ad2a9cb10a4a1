-- RULES 7: which range a call edits, when it is refused, and what it leaves (Rust: `transform_range`, `transform`).
use Rattle.std.specs.Prelude.{ℕ, min, ◌≡◌, Bool, true, not, List, [], length, Result, Ok, Err}
use Rattle.note.specs.declared.Refusal.{Refusal}
use Rattle.note.specs.declared.Refusal.TheVariants.{NotBoundary, Exhausted}
use Rattle.note.specs.Refusals.{meets, also, verdict, unless_refused, least, after, OnThree, Verdict, Accepted}
use Rattle.note.specs.Notes.{Note, lent, limit, fits, Sound}
use Rattle.note.specs.Faults.{note_faults, room_faults}
use Rattle.convert.specs.declared.Range.{Range}
use Rattle.convert.specs.Converting.{start_of, end_of, as_normalized, in_original}
use Rattle.script.specs.declared.Command.{Command}
use Rattle.script.specs.Scripts.{commands_of, script_faults}
use Rattle.utf8.specs.Formed.{char_range}
use Rattle.edit_steps.specs.Edits.{characters, starved, Edit, edit, first_position, edited, transformed, unchanging}

-- RULES 7.2: the edit of a range as it lies in the cleaned text; where it lies nowhere, the note stays as it is
abbrev pub edit_of : Result Range Refusal → ℕ → List Command → Edit
edit_of (Ok r) skip cs = edit (start_of r) (end_of r) skip cs
edit_of (Err k) skip cs = unchanging

abbrev pub range_edit : Note → Range → ℕ → List Command → Edit
range_edit n range skip cs = edit_of (as_normalized n.starts n.ends range) skip cs

-- the refusals of an edit in the room that the buffers have: 5, 7, 9
abbrev pub edit_faults : ℕ → List ℕ → Edit → ℕ → Refusal → Bool
edit_faults most s e room =
    meets NotBoundary (not (char_range s e.from e.to))
    (meets Exhausted (starved s e.to (first_position s e) e.commands)
    (room_faults (length (edited characters s e s)) (min most room)))

-- what an edit of a note answers and leaves in the three buffers: the verdict, the note that it makes, the buffers
-- before, the answer, the buffers after
pub record Rewritten (says : Verdict) (made : Note) (out₀ starts₀ ends₀ : List ℕ) (r : Result ℕ Refusal)
    (out starts ends : List ℕ) : Type 0 where
  pub answer : r ≡ unless_refused Err says (Ok (length made.normalized))
  pub text_is : out ≡ after says made.normalized out₀
  pub starts_are : starts ≡ after says made.starts starts₀
  pub ends_are : ends ≡ after says made.ends ends₀

-- A CALL THAT EDITS A NOTE: its refusals by the room of the buffers, the note and the edit
abbrev pub EditCall : (ℕ → Refusal → Bool) → Note → Edit → OnThree (Result ℕ Refusal)
EditCall faults n e out₀ starts₀ ends₀ =
    Rewritten (verdict (faults (least (length out₀) (length starts₀) (length ends₀)))) (transformed n e)
    out₀ starts₀ ends₀

-- the refusals of a call that edits a note: the note's, those of what else the call is given, then the edit's
abbrev pub call_faults : ℕ → Note → (Refusal → Bool) → Edit → ℕ → Refusal → Bool
call_faults most n given e room = also (also (note_faults most n) given) (edit_faults most n.normalized e room)

abbrev pub NoteCall : Note → (Refusal → Bool) → Edit → OnThree (Result ℕ Refusal)
NoteCall n given e = EditCall (call_faults limit n given e) n e

-- an inner call, after the checks: the transcript plays no part
abbrev pub TextCall : ℕ → List ℕ → List ℕ → List ℕ → Edit → OnThree (Result ℕ Refusal)
TextCall most s starts ends e = EditCall (edit_faults most s e) (lent [] s starts ends 0) e

-- `transform_range`: the note's refusals and the script's, then the edit's
abbrev pub script_edit : Note → Range → List ℕ → ℕ → Edit
script_edit n range script skip = range_edit n range skip (commands_of script)

abbrev pub TransformCall : Note → Range → List ℕ → ℕ → OnThree (Result ℕ Refusal)
TransformCall n range script skip = NoteCall n (script_faults script) (script_edit n range script skip)

-- the whole transcript, which `transform` takes
abbrev pub whole_original : List ℕ → Range
whole_original original = in_original 0 (length original)

-- CLAIM: an accepted edit leaves a sound note, and one within the limit.
abbrev pub TransformedSound : Type 0
TransformedSound =
    (most : ℕ) (n : Note) (e : Edit) (room : ℕ)
    → verdict (note_faults most n) ≡ Accepted → verdict (edit_faults most n.normalized e room) ≡ Accepted
    → Sound (transformed n e) × (fits most (transformed n e) ≡ true)
