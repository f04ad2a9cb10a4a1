-- Claims about two exported calls: a refusal of 0 is an answer that was published.
use Prim.Native.Nat.{ℕ}
use mathlib.Core.Path.{◌≡◌, ◌∙◌, ap, sym}
use mathlib.Core.List.{List}
use native.Mathlib.Omega.{arith}
use Rattle.std.specs.Prelude.{Result, Ok, Err}
use Rattle.note.specs.Refusals.{number_of}
use Rattle.note.specs.Notes.{Note, limit}
use Rattle.note.proofs.Numbers.{number_of-some}
use Rattle.replace.specs.Replacing.{Replacing}
use Rattle.replace.proofs.Blanking.{blanking}
use Rattle.replace_by_edits.proofs.Calls.{road-is-replaced}
use Rattle.zulmyren.specs.declared.answers.Written.{Written}
use Rattle.zulmyren.specs.Calls.{written_of}
use Rattle.zulmyren.specs.Promised.{ReplaceCall}
use Rattle.zulmyren.specs.Exported.{ExportedBlanking, ExportedRoad}
use Rattle.note.specs.declared.Refusal.{Refusal}

published-answer : (v : Result ℕ Refusal) (r : Written) → r ≡ written_of v → r.refusal ≡ 0 → v ≡ Ok r.len
published-answer (Ok n) r e z = ap Ok (sym (ap (λ (x : Written). x.len) e))
published-answer (Err k) r e z =
    let is : number_of k ≡ 0 = sym (ap (λ (x : Written). x.refusal) e) ∙ z in
    absurd (omega (arith, is, number_of-some k))

published-call : {n : Note} {list content out₀ starts₀ ends₀ out starts ends : List ℕ} (r : Written) → ReplaceCall n list content out₀ starts₀ ends₀ r out starts ends → r.refusal ≡ 0 → Replacing limit n list content out₀ starts₀ ends₀ (Ok r.len) out starts ends
published-call r call z = rw (published-answer call.answer r call.told z) at call.met

pub exported-blanking : ExportedBlanking
exported-blanking n m list content a b outₙ₀ startsₙ₀ endsₙ₀ outₙ startsₙ endsₙ outₘ₀ startsₘ₀ endsₘ₀ outₘ startsₘ endsₘ first za second zb =
    blanking limit n m list content a.len b.len outₙ₀ startsₙ₀ endsₙ₀ outₙ startsₙ endsₙ outₘ₀ startsₘ₀ endsₘ₀ outₘ startsₘ endsₘ
    (published-call a first za) (published-call b second zb)

pub exported-road : ExportedRoad
exported-road n list content out₀ starts₀ ends₀ a₀ b₀ a b r q out starts ends out₁ starts₁ ends₁ road call ample =
    let same = road-is-replaced.1 limit n list content out₀ starts₀ ends₀ a₀ b₀ a b road.answer call.answer out starts ends out₁ starts₁ ends₁ road.met call.met ample in
    (road.told ∙ ap written_of same.0 ∙ sym call.told, same.1, same.2, same.3)
