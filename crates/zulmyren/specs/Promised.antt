-- The contracts of exported calls that write buffers, by name: what is passed and the buffers before; the answer and
-- the buffers after. Those of the edits are in `Edits`.
use Rattle.std.specs.Prelude.{ℕ, List}
use Rattle.note.specs.Notes.{Note, limit}
use Rattle.note.specs.Refusals.{OnThree, answer_of}
use Rattle.char_offsets.specs.Positions.{CharOffsetsList}
use Rattle.convert.specs.declared.OffsetReferential.{OffsetReferential}
use Rattle.convert.specs.declared.Range.{Range}
use Rattle.convert_list.specs.ConvertList.{ConvertedList}
use Rattle.replace.specs.Replacing.{Replacing}
use Rattle.replace_by_edits.specs.ByEdits.{Scratch, ReplacingByEdits}
use Rattle.redact_note.specs.Redacting.{NoteRedacted}
use Rattle.redact_all.specs.RedactAll.{AllBuffers, AllRedacted}
use Rattle.redact.specs.Redacting.{Redacted}
use Rattle.slice.specs.Slicing.{Slicing}
use Rattle.behaviors.specs.declared.SplitDelimiterBehavior.{SplitDelimiterBehavior}
use Rattle.behaviors.specs.declared.EmptyPieces.{EmptyPieces}
use Rattle.split.specs.Splitting.{PieceColumns, Splitting}
use Rattle.char_columns.specs.declared.OffsetType.{OffsetType}
use Rattle.split_offsets.specs.SplitOffsets.{GetSplits}
use Rattle.zulmyren.specs.declared.answers.Blanked.{Blanked}
use Rattle.zulmyren.specs.declared.answers.BlankedAll.{BlankedAll}
use Rattle.zulmyren.specs.declared.answers.Cut.{Cut}
use Rattle.zulmyren.specs.declared.answers.Slice.{Slice}
use Rattle.zulmyren.specs.declared.answers.Written.{Written}
use Rattle.zulmyren.specs.Calls.{Told, all_blanked_of, blanked_of, cut_numbers, written_of, slice_numbers}

-- a contract on three buffers, its answer told in numbers
abbrev pub ToldThree : {A N : Type 0} → (A → N) → OnThree A → OnThree N
ToldThree tell call x₀ y₀ z₀ r x y z = Told tell (λ v. call x₀ y₀ z₀ v x y z) r

-- a text, starts and ends
abbrev pub CharOffsetsAllCall : List ℕ → List ℕ → List ℕ → OnThree ℕ
CharOffsetsAllCall text from to = ToldThree answer_of (CharOffsetsList limit text from to)

-- a note, the text that the ranges are in, their starts and ends
abbrev pub ConvertAllCall : Note → OffsetReferential → List ℕ → List ℕ → OnThree ℕ
ConvertAllCall n side from to = ToldThree answer_of (ConvertedList limit n side from to)

-- a note, a list, a content
abbrev pub ReplaceCall : Note → List ℕ → List ℕ → OnThree Written
ReplaceCall n list content = ToldThree written_of (Replacing limit n list content)

-- a note, a list, a content; three buffers, and two sets of scratch
abbrev pub ReplaceByEditsCall : Note → List ℕ → List ℕ → List ℕ → List ℕ → List ℕ → Scratch → Scratch
    → Written → List ℕ → List ℕ → List ℕ → Scratch → Scratch → Type 0
ReplaceByEditsCall n list content out₀ starts₀ ends₀ a₀ b₀ r out starts ends a b =
    Told written_of (λ v. ReplacingByEdits limit n list content out₀ starts₀ ends₀ a₀ b₀ v out starts ends a b) r

-- a text, a literal, a content
abbrev pub RedactCall : List ℕ → List ℕ → List ℕ → OnThree Blanked
RedactCall text literal content = ToldThree blanked_of (Redacted limit text literal content)

-- a note, a literal, a content; the list, and three buffers
abbrev pub RedactNoteCall : Note → List ℕ → List ℕ → List ℕ → List ℕ → List ℕ → List ℕ
    → Blanked → List ℕ → List ℕ → List ℕ → List ℕ → Type 0
RedactNoteCall n literal content list₀ out₀ starts₀ ends₀ r list out starts ends =
    Told blanked_of (λ v. NoteRedacted limit n literal content list₀ out₀ starts₀ ends₀ v list out starts ends) r

-- a note, words and sizes; six buffers
abbrev pub RedactAllCall : Note → List ℕ → List ℕ → AllBuffers → BlankedAll → AllBuffers → Type 0
RedactAllCall n bytes sizes b₀ r b = Told all_blanked_of (λ v. AllRedacted limit n bytes sizes b₀ v b) r

-- a note, a range; two columns
abbrev pub SliceCall : Note → Range → List ℕ → List ℕ → Slice → List ℕ → List ℕ → Type 0
SliceCall n range starts₀ ends₀ r starts ends =
    Told slice_numbers (λ v. Slicing limit n range starts₀ ends₀ v starts ends) r

-- a note, a list, a behaviour, whether empty pieces are dropped; six columns
abbrev pub SplitCall : Note → List ℕ → SplitDelimiterBehavior → EmptyPieces → PieceColumns → Cut → PieceColumns → Type 0
SplitCall n list behavior empty c₀ r c = Told cut_numbers (λ v. Splitting limit n list behavior empty c₀ v c) r

-- a note, a list, a behaviour, the text and the unit that are asked for; two columns
abbrev pub GetSplitsCall : Note → List ℕ → SplitDelimiterBehavior → OffsetReferential → OffsetType
    → List ℕ → List ℕ → Written → List ℕ → List ℕ → Type 0
GetSplitsCall n list behavior side unit starts₀ ends₀ r starts ends =
    Told written_of (λ v. GetSplits limit n list behavior side unit starts₀ ends₀ v starts ends) r
