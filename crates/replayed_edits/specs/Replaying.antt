-- The replay of a call that publishes a note: the exported call's own contract is met by some answer and some buffers,
-- and the result says whether these are what the case stores. The contract leaves no choice of them.
use Rattle.std.specs.Prelude.{ℕ, ◌+◌, min, ◌≡◌, Bool, ◌&&◌, List, length}
use Rattle.buffers.specs.Same.{same}
use Rattle.note.specs.Notes.{limit}
use Rattle.note.specs.Refusals.{OnThree}
use Rattle.convert.specs.Converting.{range_of}
use Rattle.transform.specs.Transforming.{whole_original}
use Rattle.stored_answers.specs.declared.calls.EditCall.{EditCall}
use Rattle.stored_answers.specs.declared.calls.EditCall.TheVariants.{
  Replace,
  Redact,
  TransformRange,
  Transform,
  Map,
  Filter,
  Append,
  Prepend,
  Lowercase,
  ReplaceByEdits,
}
use Rattle.stored_answers.specs.declared.calls.PublishingCall.{PublishingCall}
use Rattle.stored_answers.specs.declared.calls.PublishingCall.TheVariants.{Clear, Edit}
use Rattle.stored_answers.specs.Framing.{field_of, is_number}
use Rattle.stored_answers.specs.Differences.{numbers_of, offset_column}
use Rattle.stored_answers.specs.Lending.{flag_at, note_at, number_at}
use Rattle.replace_by_edits.specs.ByEdits.{Scratch}
use Rattle.zulmyren.specs.declared.answers.Written.{Written}
use Rattle.zulmyren.specs.declared.answers.Blanked.{Blanked}
use Rattle.zulmyren.specs.declared.answers.Lengths.{Lengths}
use Rattle.zulmyren.specs.Calls.{side_of}
use Rattle.zulmyren.specs.Promised.{RedactCall, ReplaceByEditsCall, ReplaceCall, ToldThree}
use Rattle.zulmyren.specs.Edits.{AppendTold, ClearTold, FilterTold, LowercaseTold, MapTold, PrependTold, TransformTold}

-- whether the fields from `index` on are a text and its columns
abbrev pub published_stored : List ℕ → ℕ → List ℕ → List ℕ → List ℕ → Bool
published_stored case index text starts ends =
    (same (field_of index case) text && same starts (offset_column limit (field_of (index + 1) case)))
    && same ends (offset_column limit (field_of (index + 2) case))

-- the refusal, the size, and these three
abbrev pub edit_stored : List ℕ → ℕ → Written → List ℕ → List ℕ → List ℕ → Bool
edit_stored case index a text starts ends =
    (is_number (field_of index case) a.refusal && is_number (field_of (index + 1) case) a.len)
    && published_stored case (index + 2) text starts ends

-- the refusal, how long the text was and is, and these three
abbrev pub clear_stored : List ℕ → ℕ → Lengths → List ℕ → List ℕ → List ℕ → Bool
clear_stored case index a text starts ends =
    ((is_number (field_of index case) a.refusal && is_number (field_of (index + 1) case) a.before_len)
    && is_number (field_of (index + 2) case) a.len)
    && published_stored case (index + 3) text starts ends

-- a call on three buffers, by its answer and what it leaves there, and what a case stores of them
pub record Replayed {A : Type 0} (call : A → List ℕ → List ℕ → List ℕ → Type 0)
    (stored : A → List ℕ → List ℕ → List ℕ → Bool) (r : Bool) : Type 0 where
  pub answer : A
  pub text : List ℕ
  pub starts : List ℕ
  pub ends : List ℕ
  pub met : call answer text starts ends
  pub says : r ≡ stored answer text starts ends

-- the calls with what a case and the note's columns give them
abbrev pub ReplaceCase : List ℕ → List ℕ → List ℕ → OnThree Written
ReplaceCase case starts ends = ReplaceCall (note_at case starts ends) (field_of 5 case) (field_of 6 case)

-- what is stored of blanking: the refusal and the size
abbrev pub len_of : Blanked → Written
len_of a = record { refusal = a.refusal; len = a.len }

abbrev pub RedactCase : List ℕ → OnThree Written
RedactCase case = ToldThree len_of (RedactCall (field_of 0 case) (field_of 1 case) (field_of 2 case))

abbrev pub RangeCase : List ℕ → List ℕ → List ℕ → OnThree Written
RangeCase case starts ends =
    TransformTold (note_at case starts ends)
    (range_of (side_of (flag_at case 5)) (number_at case 6) (number_at case 7))
    (field_of 8 case) (number_at case 9)

abbrev pub ScriptCase : List ℕ → List ℕ → List ℕ → OnThree Written
ScriptCase case starts ends =
    TransformTold (note_at case starts ends) (whole_original (field_of 0 case)) (field_of 5 case) (number_at case 6)

abbrev pub MapCase : List ℕ → List ℕ → List ℕ → OnThree Written
MapCase case starts ends = MapTold (note_at case starts ends) (numbers_of (field_of 5 case))

abbrev pub LowercaseCase : List ℕ → List ℕ → List ℕ → OnThree Written
LowercaseCase case starts ends = LowercaseTold (note_at case starts ends)

abbrev pub FilterCase : List ℕ → List ℕ → List ℕ → OnThree Written
FilterCase case starts ends = FilterTold (note_at case starts ends) (field_of 5 case)

abbrev pub AppendCase : List ℕ → List ℕ → List ℕ → OnThree Written
AppendCase case starts ends = AppendTold (note_at case starts ends) (field_of 5 case)

abbrev pub PrependCase : List ℕ → List ℕ → List ℕ → OnThree Written
PrependCase case starts ends = PrependTold (note_at case starts ends) (field_of 5 case)

-- replacing by edits, with scratch
abbrev pub ByEditsPassed : List ℕ → List ℕ → List ℕ → List ℕ → List ℕ → List ℕ → Scratch → Scratch
    → Written → List ℕ → List ℕ → List ℕ → Scratch → Scratch → Type 0
ByEditsPassed case starts ends = ReplaceByEditsCall (note_at case starts ends) (field_of 5 case) (field_of 6 case)

-- how long a scratch buffer is: as a field says, but no longer than the replay has room for
abbrev pub scratch_len : List ℕ → ℕ → ℕ
scratch_len case index = min (number_at case index) (limit + 1)

-- a set of them, by three fields
pub record ScratchOf (case : List ℕ) (index : ℕ) (a : Scratch) : Type 0 where
  pub text_len : length a.text ≡ scratch_len case index
  pub starts_len : length a.starts ≡ scratch_len case (index + 1)
  pub ends_len : length a.ends ≡ scratch_len case (index + 2)

pub record ByEditsCase (case starts ends out₀ starts₀ ends₀ : List ℕ) (r : Written) (out s e : List ℕ) : Type 0 where
  pub first₀ : Scratch
  pub second₀ : Scratch
  pub first : Scratch
  pub second : Scratch
  pub first_is : ScratchOf case 7 first₀
  pub second_is : ScratchOf case 10 second₀
  pub met : ByEditsPassed case starts ends out₀ starts₀ ends₀ first₀ second₀ r out s e first second

-- what a call is held to
abbrev pub CaseOf : EditCall → List ℕ → List ℕ → List ℕ → OnThree Written
CaseOf Replace case starts ends = ReplaceCase case starts ends
CaseOf Redact case starts ends = RedactCase case
CaseOf TransformRange case starts ends = RangeCase case starts ends
CaseOf Transform case starts ends = ScriptCase case starts ends
CaseOf Map case starts ends = MapCase case starts ends
CaseOf Filter case starts ends = FilterCase case starts ends
CaseOf Append case starts ends = AppendCase case starts ends
CaseOf Prepend case starts ends = PrependCase case starts ends
CaseOf Lowercase case starts ends = LowercaseCase case starts ends
CaseOf ReplaceByEdits case starts ends = ByEditsCase case starts ends

pub record CallAnswered (call : EditCall) (case starts ends out₀ starts₀ ends₀ : List ℕ) (r : Written)
    (out s e : List ℕ) : Type 0 where
  pub met : CaseOf call case starts ends out₀ starts₀ ends₀ r out s e

-- the replay of clear, whose answer has two lengths, or of another call
abbrev pub ReplayOf : PublishingCall → List ℕ → ℕ → List ℕ → List ℕ → List ℕ → List ℕ → List ℕ → Bool → Type 0
ReplayOf Clear case at starts ends out₀ starts₀ ends₀ r =
    Replayed (ClearTold (note_at case starts ends) out₀ starts₀ ends₀) (clear_stored case 8) r
ReplayOf (Edit call) case at starts ends out₀ starts₀ ends₀ r =
    Replayed (CallAnswered call case starts ends out₀ starts₀ ends₀) (edit_stored case (at + 3)) r

-- the replay of a call; the buffers are in the fields from `at` on, and what is stored of the answer after them
pub record Published (call : PublishingCall) (case : List ℕ) (at : ℕ) (starts ends out₀ starts₀ ends₀ : List ℕ)
    (r : Bool) : Type 0 where
  pub met : ReplayOf call case at starts ends out₀ starts₀ ends₀ r
