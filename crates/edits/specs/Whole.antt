-- RULES 8: the edits of a whole note, each by the commands that the Rust builds and the range that it gives them
-- (Rust: `filter`, `prepend`, `append`, `map`, `clear`).
use Rattle.std.specs.Prelude.{ℕ, suc, ◌-◌, ◌≡◌, Bool, true, false, cond, ◌||◌, not, List, [], ◌∷◌, ◌++◌, eqb, length, get_or, Result, Ok, Err}
use Rattle.utf8.specs.Formed.{announced}
use Rattle.utf8.specs.Chars.{chars}
use Rattle.note.specs.declared.Refusal.{Refusal}
use Rattle.note.specs.declared.Refusal.TheVariants.{BadScript, CountMismatch}
use Rattle.note.specs.Refusals.{none, meets, also, verdict, unless_refused, least, after, OnThree, Verdict}
use Rattle.note.specs.Notes.{Note, limit}
use Rattle.utf8.specs.CharRanges.{char_start}
use Rattle.note.specs.Faults.{note_faults, string_faults}
use Rattle.convert.specs.declared.Range.{Range}
use Rattle.script.specs.declared.Command.{Command}
use Rattle.code_point_blocks.specs.Codes.{all_scalar}
use Rattle.edit_steps.specs.Edits.{edit, Edit, transformed, unchanging}
use Rattle.transform.specs.Transforming.{range_edit, edit_faults, NoteCall, whole_original}
use Rattle.edits.specs.Characters.{code_at, codes_of}

-- the range that `filter`, `map`, `clear` and `lowercase` edit: the whole transcript
abbrev pub whole_range : Note → Range
whole_range n = whole_original n.original

-- a character that replaces one, with so many removed after it, and one that is added
abbrev pub replacing : ℕ → ℕ → Command
replacing removed c = record { character = c; added = false; removed = removed }

abbrev pub adding : ℕ → Command
adding c = record { character = c; added = true; removed = 0 }

unfoldable pub all_replacing : List ℕ → List Command
all_replacing [] = []
all_replacing (c ∷ cs) = replacing 0 c ∷ all_replacing cs

unfoldable pub all_adding : List ℕ → List Command
all_adding [] = []
all_adding (c ∷ cs) = adding c ∷ all_adding cs

-- MAP: a code point for each character
unfoldable pub map_edit : Note → List ℕ → Edit
map_edit n codes = range_edit n (whole_range n) 0 (all_replacing codes)

-- code points are scalar values, one for each cleaned character
abbrev pub codes_faults : List ℕ → List ℕ → Refusal → Bool
codes_faults text codes =
    meets BadScript (not (all_scalar codes)) (meets CountMismatch (not (eqb (length codes) (chars text))) none)

abbrev pub MapCall : Note → List ℕ → OnThree (Result ℕ Refusal)
MapCall n codes = NoteCall n (codes_faults n.normalized codes) (map_edit n codes)

-- CLEAR: no command, and as many characters skipped as the text has bytes
unfoldable pub clear_edit : Note → Edit
clear_edit n = range_edit n (whole_range n) (length n.normalized) []

abbrev pub clear_faults : ℕ → Note → ℕ → Refusal → Bool
clear_faults most n room = also (note_faults most n) (edit_faults most n.normalized (clear_edit n) room)

-- what `clear` answers, how long the cleaned text was and is, and what it leaves in the buffers: the verdict, the note
-- and what is made of it, the buffers before, the answer, the buffers after
pub record Emptied (says : Verdict) (n made : Note) (out₀ starts₀ ends₀ : List ℕ) (r : Result (ℕ × ℕ) Refusal)
    (out starts ends : List ℕ) : Type 0 where
  pub answer : r ≡ unless_refused Err says (Ok (length n.normalized, length made.normalized))
  pub text_is : out ≡ after says made.normalized out₀
  pub starts_are : starts ≡ after says made.starts starts₀
  pub ends_are : ends ≡ after says made.ends ends₀

abbrev pub ClearCall : Note → OnThree (Result (ℕ × ℕ) Refusal)
ClearCall n out₀ starts₀ ends₀ =
    Emptied (verdict (clear_faults limit n (least (length out₀) (length starts₀) (length ends₀)))) n
    (transformed n (clear_edit n)) out₀ starts₀ ends₀

-- APPEND: the last character replaces itself, the string's are added
unfoldable pub append_edit : Note → List ℕ → Edit
append_edit n string =
    cond (eqb (length n.normalized) 0) (edit 0 0 0 (all_adding (codes_of string)))
    (edit (char_start n.normalized (length n.normalized - 1)) (length n.normalized) 0
    (replacing 0 (code_at n.normalized (char_start n.normalized (length n.normalized - 1)))
    ∷ all_adding (codes_of string)))

-- PREPEND: the string's first character replaces the text's first one, the others are added, and so is that first one
abbrev pub replacing_first : List ℕ → List Command
replacing_first [] = []
replacing_first (c ∷ cs) = replacing 0 c ∷ all_adding cs

unfoldable pub prepend_edit : Note → List ℕ → Edit
prepend_edit n string =
    cond (eqb (length n.normalized) 0) unchanging
    (edit 0 (announced (get_or n.normalized 0 0)) 0
    (replacing_first (codes_of string) ++ (adding (code_at n.normalized 0) ∷ [])))

-- both judge the note and the string, then the edit
abbrev pub AppendCall : Note → List ℕ → OnThree (Result ℕ Refusal)
AppendCall n string = NoteCall n (string_faults string) (append_edit n string)

abbrev pub PrependCall : Note → List ℕ → OnThree (Result ℕ Refusal)
PrependCall n string = NoteCall n (string_faults string) (prepend_edit n string)

-- FILTER: a flag for each character, 0 drops it; a kept one removes the dropped ones after it, and what is dropped
-- before the first kept one is skipped
unfoldable pub dropped_ahead : List ℕ → ℕ
dropped_ahead [] = 0
dropped_ahead (k ∷ ks) = cond (eqb k 0) (suc (dropped_ahead ks)) 0

unfoldable pub any_kept : List ℕ → Bool
any_kept [] = false
any_kept (k ∷ ks) = not (eqb k 0) || any_kept ks

unfoldable pub kept_commands : List ℕ → List ℕ → List Command
kept_commands [] ks = []
kept_commands (c ∷ cs) [] = []
kept_commands (c ∷ cs) (k ∷ ks) =
    cond (eqb k 0) (kept_commands cs ks) (replacing (dropped_ahead ks) c ∷ kept_commands cs ks)

unfoldable pub filter_edit : Note → List ℕ → Edit
filter_edit n flags =
    range_edit n (whole_range n) (cond (any_kept flags) (dropped_ahead flags) 0)
    (kept_commands (codes_of n.normalized) flags)

abbrev pub FilterCall : Note → List ℕ → OnThree (Result ℕ Refusal)
FilterCall n flags =
    NoteCall n (meets CountMismatch (not (eqb (length flags) (chars n.normalized))) none) (filter_edit n flags)
