-- From a call's answer to the exported numbers.
use Prim.Native.Nat.{ℕ}
use mathlib.Core.Path.{◌≡◌, ◌∙◌, ap, sym}
use mathlib.Core.Bool.{Bool}
use mathlib.Core.List.{List}
use borrow.Author.Tests.{ne_eqb}
use Rattle.std.specs.Prelude.{Result, Ok, Err}
use Rattle.note.specs.declared.Refusal.{Refusal}
use Rattle.note.specs.Refusals.{number_of, answer_of, verdict, Verdict}
use Rattle.note.specs.Notes.{Note, limit}
use Rattle.convert.specs.declared.Range.{Range}
use Rattle.convert.specs.declared.OffsetReferential.{OffsetReferential}
use Rattle.convert.specs.Converting.{range_of, start_of, end_of}
use Rattle.get_range.specs.Reading.{part_faults}
use Rattle.convert_list.specs.ConvertList.{ConvertedList}
use Rattle.slice.specs.declared.NoteSlice.{NoteSlice}
use Rattle.slice.specs.Slicing.{Slicing}
use Rattle.behaviors.specs.declared.SplitDelimiterBehavior.{SplitDelimiterBehavior}
use Rattle.behaviors.specs.declared.SplitDelimiterBehavior.TheVariants.{Removed, Isolated, MergedWithPrevious, MergedWithNext, Contiguous}
use Rattle.behaviors.specs.declared.EmptyPieces.{EmptyPieces}
use Rattle.split.specs.Splitting.{PieceColumns, Splitting}
use Rattle.char_columns.specs.declared.OffsetType.{OffsetType}
use Rattle.split_offsets.specs.SplitOffsets.{GetSplits}
use Rattle.zulmyren.specs.declared.answers.Offsets.{Offsets}
use Rattle.zulmyren.specs.declared.answers.Slice.{Slice}
use Rattle.zulmyren.specs.declared.answers.Cut.{Cut}
use Rattle.zulmyren.specs.declared.answers.Written.{Written}
use Rattle.zulmyren.specs.Calls.{Told, offsets_of, slice_with, slice_numbers, cut_numbers, written_of, behavior_of, empty_of, unit_of, side_of}

-- a range's call, through the side, the range and the answer's numbers
pub range-call : (f : Range → Result Range Refusal) (s : OffsetReferential) (a e : ℕ) {side : OffsetReferential} {range : Range} {answer : Result Range Refusal} {r : Offsets} → side ≡ s → range ≡ range_of side a e → answer ≡ f range → r ≡ offsets_of answer → r ≡ offsets_of (f (range_of s a e))
range-call f s a e p q w t = t ∙ ap offsets_of (w ∙ ap f (q ∙ ap (λ (x : OffsetReferential). range_of x a e) p))

pub part-call : (o m : List ℕ) (b : Bool) (a e : ℕ) {side : OffsetReferential} {range : Range} {v : Verdict} {r : ℕ} → side ≡ side_of b → range ≡ range_of side a e → v ≡ verdict (part_faults limit o m range) → r ≡ answer_of v → r ≡ answer_of (verdict (part_faults limit o m (range_of (side_of b) a e)))
part-call o m b a e p q w t =
    t ∙ ap answer_of (w ∙ ap (λ (x : Range). verdict (part_faults limit o m x)) (q ∙ ap (λ (x : OffsetReferential). range_of x a e) p))

-- the numbers of a range, and of none
pub range-found : {v : Result Range Refusal} {range : Range} {a e : ℕ} → v ≡ Ok range → a ≡ start_of range → e ≡ end_of range → record { refusal = 0; start = a; end = e } ≡ offsets_of v
unfolding offsets_of
range-found f p q = rw (f, p, q)

pub range-refused : {v : Result Range Refusal} {k : Refusal} {r : ℕ} → v ≡ Err k → r ≡ number_of k → record { refusal = r; start = 0; end = 0 } ≡ offsets_of v
unfolding offsets_of
range-refused f q = rw (f, q)

-- a list's call, through the side
pub list-call :
    {n : Note} (b : Bool) {side : OffsetReferential} {from to numbers₀ starts₀ ends₀ : List ℕ} {v : Verdict} {numbers starts ends : List ℕ} {r : ℕ}
    → side ≡ side_of b → ConvertedList limit n side from to numbers₀ starts₀ ends₀ v numbers starts ends → r ≡ answer_of v
    → Told answer_of (λ w. ConvertedList limit n (side_of b) from to numbers₀ starts₀ ends₀ w numbers starts ends) r
list-call b {v = v} p call e = record { answer = v; told = e; met = rw p at call }

-- the numbers of a slice, and of none
pub slice_cut : {v : Result NoteSlice Refusal} {s : NoteSlice} → v ≡ Ok s → slice_numbers (Ok s) ≡ slice_numbers v
slice_cut e = ap slice_numbers (sym e)

pub slice-refused : {v : Result NoteSlice Refusal} {k : Refusal} {r : ℕ} → v ≡ Err k → r ≡ number_of k → slice_with r 0 0 0 0 0 ≡ slice_numbers v
slice-refused e q = rw (e, q)

-- a slice's call, through the side and the range
pub slice-call :
    {n : Note} (b : Bool) (a e : ℕ) {side : OffsetReferential} {range : Range} {starts₀ ends₀ : List ℕ} {v : Result NoteSlice Refusal} {starts ends : List ℕ} {r : Slice}
    → side ≡ side_of b → range ≡ range_of side a e → Slicing limit n range starts₀ ends₀ v starts ends → r ≡ slice_numbers v
    → Told slice_numbers (λ w. Slicing limit n (range_of (side_of b) a e) starts₀ ends₀ w starts ends) r
slice-call b a e {v = v} p q call t = record { answer = v; told = t; met = rw (q, p) at call }

-- a behaviour by its number
module _ {n : ℕ} where
  pub behavior-one : n ≡ 1 → Removed ≡ behavior_of n
  unfolding behavior_of
  behavior-one e = rw e

  pub behavior-two : n ≡ 2 → Isolated ≡ behavior_of n
  unfolding behavior_of
  behavior-two e = rw e

  pub behavior-three : n ≡ 3 → MergedWithPrevious ≡ behavior_of n
  unfolding behavior_of
  behavior-three e = rw e

  pub behavior-four : n ≡ 4 → MergedWithNext ≡ behavior_of n
  unfolding behavior_of
  behavior-four e = rw e

  pub behavior-other : (n ≡ 1 → ⊥) → (n ≡ 2 → ⊥) → (n ≡ 3 → ⊥) → (n ≡ 4 → ⊥) → Contiguous ≡ behavior_of n
  unfolding behavior_of
  behavior-other a b c d = rw (ne_eqb n 1 a, ne_eqb n 2 b, ne_eqb n 3 c, ne_eqb n 4 d)

-- the calls that cut a note, through what is asked of them
pub split-call :
    {n : Note} {list : List ℕ} (b : ℕ) (d : Bool) {behavior : SplitDelimiterBehavior} {empty : EmptyPieces} {c₀ c : PieceColumns} {v : Result (ℕ × ℕ) Refusal} {r : Cut}
    → behavior ≡ behavior_of b → empty ≡ empty_of d → Splitting limit n list behavior empty c₀ v c → r ≡ cut_numbers v
    → Told cut_numbers (λ w. Splitting limit n list (behavior_of b) (empty_of d) c₀ w c) r
split-call b d {v = v} p q call t = record { answer = v; told = t; met = rw (p, q) at call }

pub splits-call :
    {n : Note} {list : List ℕ} (b : ℕ) (o u : Bool) {behavior : SplitDelimiterBehavior} {side : OffsetReferential} {unit : OffsetType} {starts₀ ends₀ : List ℕ} {v : Result ℕ Refusal} {starts ends : List ℕ} {r : Written}
    → behavior ≡ behavior_of b → side ≡ side_of o → unit ≡ unit_of u → GetSplits limit n list behavior side unit starts₀ ends₀ v starts ends
    → r ≡ written_of v
    → Told written_of (λ w. GetSplits limit n list (behavior_of b) (side_of o) (unit_of u) starts₀ ends₀ w starts ends) r
splits-call b o u {v = v} p q s call t = record { answer = v; told = t; met = rw (p, q, s) at call }
