-- RULES 15.5: blanking a literal in the starting note of a text: what is published, when that is refused, and the call.
use Rattle.std.specs.Prelude.{ℕ, min, ◌≡◌, Bool, List, length, Result, Ok, Err}
use Rattle.note.specs.declared.Refusal.{Refusal}
use Rattle.note.specs.Refusals.{also, least, verdict, after, unless_refused, Verdict}
use Rattle.note.specs.Faults.{text_faults, string_faults, room_faults}
use Rattle.note.specs.Starting.{starting}
use Rattle.pattern.specs.Entries.{places_of}
use Rattle.find.specs.Matching.{found_places}
use Rattle.find.specs.Finding.{found_bytes}
use Rattle.replace.specs.Replacing.{PublishedNote, replaced}
use Rattle.redact_note.specs.Redacting.{match_count}

-- what is published of a text: the literal's matches in its starting note give way to the content, the filler
abbrev pub blanked : List ℕ → List ℕ → List ℕ → PublishedNote
blanked text literal content = replaced (places_of (found_bytes text literal)) content (starting text)

-- the refusals of the inputs: the text's, the literal's, the content's
abbrev pub input_faults : ℕ → List ℕ → List ℕ → List ℕ → Refusal → Bool
input_faults most text literal content = also (text_faults most text) (also (string_faults literal) (string_faults content))

-- and those of the room for what is published
abbrev pub redact_faults : ℕ → List ℕ → List ℕ → List ℕ → ℕ → Refusal → Bool
redact_faults most text literal content room =
    also (input_faults most text literal content)
    (room_faults (length (blanked text literal content).text) (min most room))

-- THE CALL: limit, text, literal and content, the three passed buffers before, the answer, the three after
pub record Redacted (most : ℕ) (text literal content out₀ starts₀ ends₀ : List ℕ) (r : Result (ℕ × ℕ) Refusal)
    (out starts ends : List ℕ) : Type 0 where
  pub says : Verdict
  pub says_is :
      says ≡ verdict (redact_faults most text literal content (least (length out₀) (length starts₀) (length ends₀)))
  pub answer :
      r ≡ unless_refused Err says
      (Ok (length (blanked text literal content).text, match_count (found_places text literal)))
  pub text_is : out ≡ after says (blanked text literal content).text out₀
  pub starts_are : starts ≡ after says (blanked text literal content).starts starts₀
  pub ends_are : ends ≡ after says (blanked text literal content).ends ends₀
