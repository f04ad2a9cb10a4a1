-- RULES 15.8: blanking a literal in a note: what is published, how many matches give way, when that is refused, and the
-- call, which is a call of `replace`.
use Rattle.std.specs.Prelude.{ℕ, ◌+◌, min, ◌≡◌, Bool, cond, List, [], ◌∷◌, length, Result, Ok, Err}
use Rattle.note.specs.declared.Refusal.{Refusal}
use Rattle.note.specs.Refusals.{also, least, verdict, after, unless_refused, Verdict}
use Rattle.note.specs.Notes.{Note, limit}
use Rattle.note.specs.Faults.{note_faults, string_faults, room_faults}
use Rattle.pattern.specs.declared.Place.{Place}
use Rattle.pattern.specs.Entries.{places_of}
use Rattle.find.specs.Matching.{found_places}
use Rattle.find.specs.Finding.{found_bytes}
use Rattle.replace.specs.Replacing.{PublishedNote, replaced, Replacing}

-- how many of the places are matched
unfoldable pub match_count : List Place → ℕ
match_count [] = 0
match_count (p ∷ ps) = cond p.matched 1 0 + match_count ps

-- what is published of a note: the literal's matches in the cleaned text give way to the content, the filler
abbrev pub blanked_note : Note → List ℕ → List ℕ → PublishedNote
blanked_note n literal content = replaced (places_of (found_bytes n.normalized literal)) content n

-- the refusals of the inputs: the note's, the literal's, the content's
abbrev pub note_input_faults : ℕ → Note → List ℕ → List ℕ → Refusal → Bool
note_input_faults most n literal content = also (note_faults most n) (also (string_faults literal) (string_faults content))

-- those of the rooms: for the list, and for what is published
abbrev pub rooms_faults : ℕ → Note → List ℕ → List ℕ → ℕ → ℕ → Refusal → Bool
rooms_faults most n literal content list result =
    also (room_faults (length (found_bytes n.normalized literal)) list)
    (room_faults (length (blanked_note n literal content).text) (min most result))

abbrev pub note_redact_faults : ℕ → Note → List ℕ → List ℕ → ℕ → ℕ → Refusal → Bool
note_redact_faults most n literal content list result =
    also (note_input_faults most n literal content) (rooms_faults most n literal content list result)

-- THE CALL: limit, note, literal and content, the four passed buffers before, the answer, the four after; the last
-- three are published
pub record NoteRedacted (most : ℕ) (n : Note) (literal content list₀ out₀ starts₀ ends₀ : List ℕ) (r : Result (ℕ × ℕ) Refusal)
    (list out starts ends : List ℕ) : Type 0 where
  pub says : Verdict
  pub says_is :
      says ≡ verdict (note_redact_faults most n literal content (length list₀)
      (least (length out₀) (length starts₀) (length ends₀)))
  pub answer :
      r ≡ unless_refused Err says
      (Ok (length (blanked_note n literal content).text, match_count (found_places n.normalized literal)))
  pub list_is : list ≡ after says (found_bytes n.normalized literal) list₀
  pub text_is : out ≡ after says (blanked_note n literal content).text out₀
  pub starts_are : starts ≡ after says (blanked_note n literal content).starts starts₀
  pub ends_are : ends ≡ after says (blanked_note n literal content).ends ends₀

-- CLAIM: a call that publishes is a call of `replace` on that note, by the list of the literal's matches.
abbrev pub BlankedCall : Type 0
BlankedCall =
    (n : Note) (literal content list₀ out₀ starts₀ ends₀ : List ℕ) (size count : ℕ) (list out starts ends : List ℕ)
    → NoteRedacted limit n literal content list₀ out₀ starts₀ ends₀ (Ok (size, count)) list out starts ends
    → Replacing limit n (found_bytes n.normalized literal) content out₀ starts₀ ends₀ (Ok size) out starts ends
