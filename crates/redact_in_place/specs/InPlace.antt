-- A literal blanked in place: what `redact_note` publishes is in front of the buffers that the note was in.
use Rattle.std.specs.Prelude.{ℕ, ◌+◌, ◌*◌, ◌≤◌, ◌≡◌, List, length, take, Result}
use Rattle.note.specs.Notes.{Note, lent, limit}
use Rattle.pattern.specs.Encoding.{room_for}
use Rattle.redact_note.specs.Redacting.{NoteRedacted}
use Rattle.note.specs.declared.Refusal.{Refusal}

-- three buffers of the limit's length, and a note of `size` bytes in front of them
pub record Held (size : ℕ) (text starts ends : List ℕ) : Type 0 where
  pub size_most : size ≤ limit
  pub text_long : length text ≡ limit
  pub starts_long : length starts ≡ limit
  pub ends_long : length ends ≡ limit

-- the note that is held
abbrev pub held : List ℕ → ℕ → ℕ → List ℕ → List ℕ → List ℕ → Note
held original shift size text starts ends = lent original (take size text) (take size starts) (take size ends) shift

-- a call of `redact_note` on the note that is held, into the buffers that hold it, with room for the list of any
-- literal's matches: one place for each match, one before each, and one after the last (RULES 9.6)
pub record InPlace (original : List ℕ) (shift size : ℕ) (literal content text₀ starts₀ ends₀ : List ℕ) (r : Result (ℕ × ℕ) Refusal)
    (text starts ends : List ℕ) : Type 0 where
  pub list₀ : List ℕ
  pub list : List ℕ
  pub list_room : length list₀ ≡ room_for (2 * limit + 1)
  pub call :
      NoteRedacted limit (held original shift size text₀ starts₀ ends₀) literal content list₀ text₀ starts₀ ends₀ r
      list text starts ends
