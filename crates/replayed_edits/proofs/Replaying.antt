-- A call that was passed what its case's fields hold; buffers that hold what their fields do.
use Prim.Native.Nat.{ℕ, ◌+◌, ◌≤◌}
use mathlib.Core.Path.{◌≡◌, ◌∙◌, ap, refl, sym}
use mathlib.Core.Bool.{Bool}
use mathlib.Core.List.{List}
use native.Mathlib.Omega.{arith}
use lib.Dec.{eqb}
use lib.ListN.{length, take}
use lib.Seq.{length-take-le}
use Rattle.buffers.specs.Splice.{Laid}
use Rattle.note.specs.Notes.{Note, lent, limit}
use Rattle.note.specs.Refusals.{OnThree}
use Rattle.convert.specs.Converting.{range_of}
use Rattle.transform.specs.Transforming.{whole_original}
use Rattle.stored_answers.specs.declared.calls.EditCall.{EditCall}
use Rattle.stored_answers.specs.declared.calls.PublishingCall.{PublishingCall}
use Rattle.stored_answers.specs.declared.calls.PublishingCall.TheVariants.{Clear, Edit}
use Rattle.stored_answers.specs.Framing.{field_of}
use Rattle.stored_answers.specs.Lending.{number_at, note_at}
use Rattle.stored_answers.proofs.Splice.{take-laid}
use Rattle.replace_by_edits.specs.ByEdits.{Scratch}
use Rattle.zulmyren.specs.declared.answers.Written.{Written}
use Rattle.zulmyren.specs.declared.answers.Blanked.{Blanked}
use Rattle.zulmyren.specs.declared.answers.Lengths.{Lengths}
use Rattle.zulmyren.specs.Calls.{side_of}
use Rattle.zulmyren.specs.Promised.{RedactCall, ReplaceByEditsCall, ReplaceCall}
use Rattle.zulmyren.specs.Edits.{AppendTold, ClearTold, FilterTold, PrependTold, TransformTold}
use Rattle.replayed_edits.specs.Replaying.{
  ByEditsCase,
  ByEditsPassed,
  CallAnswered,
  CaseOf,
  Published,
  RangeCase,
  RedactCase,
  Replayed,
  ReplaceCase,
  ScriptCase,
  clear_stored,
  edit_stored,
  len_of,
  scratch_len,
}

-- a literal, a content
pub redact-lent : (case : List ℕ) {out₀ s₀ e₀ : List ℕ} {a : Blanked} {out s e text literal content : List ℕ} → text ≡ field_of 0 case → literal ≡ field_of 1 case → content ≡ field_of 2 case
    → RedactCall text literal content out₀ s₀ e₀ a out s e → RedactCase case out₀ s₀ e₀ (len_of a) out s e
redact-lent case {out₀} {s₀} {e₀} {a} {out} {s} {e} t l f call =
    record { answer = a; told = refl; met = coe 0 1 (i. RedactCall (t i) (l i) (f i) out₀ s₀ e₀ a out s e) call }

module _ (case : List ℕ) {out₀ s₀ e₀ : List ℕ} {a : Written} {out s e : List ℕ} where
  -- what was read of the note
  module _ (starts ends : List ℕ) {original normalized : List ℕ} {shift : ℕ} (o : original ≡ field_of 0 case) (n : normalized ≡ field_of 1 case) (k : shift ≡ number_at case 4) where
    pub replace-lent : {list content : List ℕ} → list ≡ field_of 5 case → content ≡ field_of 6 case → ReplaceCall (lent original normalized starts ends shift) list content out₀ s₀ e₀ a out s e → ReplaceCase case starts ends out₀ s₀ e₀ a out s e
    replace-lent l f call = coe 0 1 (i. ReplaceCall (lent (o i) (n i) starts ends (k i)) (l i) (f i) out₀ s₀ e₀ a out s e) call

    pub by-edits-lent : {list content : List ℕ} {a₀ b₀ c d : Scratch} → list ≡ field_of 5 case → content ≡ field_of 6 case
        → ReplaceByEditsCall (lent original normalized starts ends shift) list content out₀ s₀ e₀ a₀ b₀ a out s e c d → ByEditsPassed case starts ends out₀ s₀ e₀ a₀ b₀ a out s e c d
    by-edits-lent {a₀ = a₀} {b₀} {c} {d} l f call = coe 0 1 (i. ReplaceByEditsCall (lent (o i) (n i) starts ends (k i)) (l i) (f i) out₀ s₀ e₀ a₀ b₀ a out s e c d) call

    pub range-lent :
        {side start end offset : ℕ} {script : List ℕ} → side ≡ number_at case 5 → start ≡ number_at case 6 → end ≡ number_at case 7
        → script ≡ field_of 8 case → offset ≡ number_at case 9
        → TransformTold (lent original normalized starts ends shift) (range_of (side_of (eqb side 1)) start end) script offset out₀ s₀ e₀ a out s e
        → RangeCase case starts ends out₀ s₀ e₀ a out s e
    range-lent f from to b x call = coe 0 1 (i. TransformTold (lent (o i) (n i) starts ends (k i)) (range_of (side_of (eqb (f i) 1)) (from i) (to i)) (b i) (x i) out₀ s₀ e₀ a out s e) call

    pub script-lent : {offset : ℕ} {script : List ℕ} → script ≡ field_of 5 case → offset ≡ number_at case 6 → TransformTold (lent original normalized starts ends shift) (whole_original original) script offset out₀ s₀ e₀ a out s e → ScriptCase case starts ends out₀ s₀ e₀ a out s e
    script-lent b x call = coe 0 1 (i. TransformTold (lent (o i) (n i) starts ends (k i)) (whole_original (o i)) (b i) (x i) out₀ s₀ e₀ a out s e) call

    -- nothing
    pub note-lent : (edit : Note → OnThree Written) → edit (lent original normalized starts ends shift) out₀ s₀ e₀ a out s e → edit (note_at case starts ends) out₀ s₀ e₀ a out s e
    note-lent edit call = coe 0 1 (i. edit (lent (o i) (n i) starts ends (k i)) out₀ s₀ e₀ a out s e) call

    -- code points, flags, a string
    pub whole-lent : (edit : Note → List ℕ → OnThree Written) {given stored : List ℕ} → given ≡ stored → edit (lent original normalized starts ends shift) given out₀ s₀ e₀ a out s e → edit (note_at case starts ends) stored out₀ s₀ e₀ a out s e
    whole-lent edit b call = coe 0 1 (i. edit (lent (o i) (n i) starts ends (k i)) (b i) out₀ s₀ e₀ a out s e) call

module _ (case starts ends : List ℕ) {original normalized : List ℕ} {shift : ℕ} (o : original ≡ field_of 0 case) (n : normalized ≡ field_of 1 case) (k : shift ≡ number_at case 4) {out₀ s₀ e₀ out s e : List ℕ} {r : Bool} where
  pub clear-replayed : {a : Lengths} → ClearTold (lent original normalized starts ends shift) out₀ s₀ e₀ a out s e → r ≡ clear_stored case 8 a out s e → Replayed (ClearTold (note_at case starts ends) out₀ s₀ e₀) (clear_stored case 8) r
  clear-replayed {a = a} call told =
      record {
        answer = a;
        text = out;
        starts = s;
        ends = e;
        met = coe 0 1 (i. ClearTold (lent (o i) (n i) starts ends (k i)) out₀ s₀ e₀ a out s e) call;
        says = told;
      }

-- the front of a buffer, as long as a field says
module _ (case : List ℕ) (index : ℕ) (d : List ℕ) {n : ℕ} (is : n ≡ scratch_len case index) (long : limit + 1 ≡ length d) where
  pub scratch-inside : n ≤ length d
  scratch-inside = omega (arith, is, long)

  pub scratch-cut : n ≡ length (take n d)
  scratch-cut = sym (length-take-le n d scratch-inside)

  pub scratch-long : length (take n d) ≡ scratch_len case index
  scratch-long = sym scratch-cut ∙ is

-- a call by what it is
pub answers : {call is : EditCall} {case starts ends out₀ s₀ e₀ : List ℕ} {a : Written} {out s e : List ℕ} → call ≡ is → CaseOf is case starts ends out₀ s₀ e₀ a out s e → CallAnswered call case starts ends out₀ s₀ e₀ a out s e
answers e met = record { met = rw e met }

module _ {call : PublishingCall} {case : List ℕ} {at : ℕ} {starts ends out₀ s₀ e₀ : List ℕ} {r : Bool} where
  pub cleared : call ≡ Clear → Replayed (ClearTold (note_at case starts ends) out₀ s₀ e₀) (clear_stored case 8) r → Published call case at starts ends out₀ s₀ e₀ r
  cleared is met = record { met = rw is met }

  pub counted : {edit : EditCall} {a : Written} {out s e : List ℕ} → call ≡ Edit edit → CallAnswered edit case starts ends out₀ s₀ e₀ a out s e → r ≡ edit_stored case (at + 3) a out s e → Published call case at starts ends out₀ s₀ e₀ r
  counted {a = a} {out} {s} {e} is met told = record { met = rw is (record { answer = a; text = out; starts = s; ends = e; met = met; says = told }) }

  pub buffers-lent : {out₁ s₁ e₁ : List ℕ} → out₀ ≡ out₁ → s₀ ≡ s₁ → e₀ ≡ e₁ → Published call case at starts ends out₀ s₀ e₀ r → Published call case at starts ends out₁ s₁ e₁ r
  buffers-lent o p q met = coe 0 1 (i. Published call case at starts ends (o i) (p i) (q i) r) met

-- a text's buffer that is filled from a field, up to where it is filled
pub bytes-filled : (field : List ℕ) {d₀ d : List ℕ} {end : ℕ} → Laid (take (length d₀) field) d₀ 0 end d → limit + 1 ≡ length d₀ → take end d ≡ take (limit + 1) field
bytes-filled field l long = take-laid l ∙ ap (λ k. take k field) (sym long)
