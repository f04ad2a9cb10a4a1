-- A range's edit, through the side.
use Prim.Native.Nat.{ℕ}
use mathlib.Core.Path.{◌≡◌}
use mathlib.Core.Bool.{Bool}
use mathlib.Core.List.{List}
use Rattle.std.specs.Prelude.{Result}
use Rattle.note.specs.Notes.{Note}
use Rattle.convert.specs.declared.Range.{Range}
use Rattle.convert.specs.declared.OffsetReferential.{OffsetReferential}
use Rattle.convert.specs.Converting.{range_of}
use Rattle.transform.specs.Transforming.{TransformCall}
use Rattle.zulmyren.specs.declared.answers.Written.{Written}
use Rattle.zulmyren.specs.Calls.{written_of, side_of}
use Rattle.zulmyren.specs.Edits.{TransformTold}
use Rattle.note.specs.declared.Refusal.{Refusal}

pub range-edit : (n : Note) (b : Bool) (a e : ℕ) (script : List ℕ) (skip : ℕ) {out₀ starts₀ ends₀ : List ℕ}
    {side : OffsetReferential} {range : Range} {v : Result ℕ Refusal} {out starts ends : List ℕ} {r : Written}
    → side ≡ side_of b → range ≡ range_of side a e
    → TransformCall n range script skip out₀ starts₀ ends₀ v out starts ends → r ≡ written_of v
    → TransformTold n (range_of (side_of b) a e) script skip out₀ starts₀ ends₀ r out starts ends
range-edit n b a e script skip {v = v} p q call t = record { answer = v; told = t; met = rw (q, p) at call }
