-- RULES 10 and 16: claims about two exported calls, as a C program sees them.
use Rattle.std.specs.Prelude.{ℕ, ◌≤◌, ◌≡◌, List}
use Rattle.note.specs.Notes.{Note}
use Rattle.pattern.specs.Entries.{places_of}
use Rattle.replace.specs.Blanking.{Equal, Agree, published}
use Rattle.replace_by_edits.specs.ByEdits.{Scratch, scratch_room, scratch_size}
use Rattle.zulmyren.specs.declared.answers.Written.{Written}
use Rattle.zulmyren.specs.Promised.{ReplaceByEditsCall, ReplaceCall}

-- CLAIM: two calls of `zulmyren_replace` with one list and one content, both with refusal 0: the first `len` elements
-- of the three buffers are equal exactly when the notes agree.
abbrev pub ExportedBlanking : Type 0
ExportedBlanking =
    (n m : Note) (list content : List ℕ) (a b : Written)
    (outₙ₀ startsₙ₀ endsₙ₀ outₙ startsₙ endsₙ outₘ₀ startsₘ₀ endsₘ₀ outₘ startsₘ endsₘ : List ℕ)
    → ReplaceCall n list content outₙ₀ startsₙ₀ endsₙ₀ a outₙ startsₙ endsₙ → a.refusal ≡ 0
    → ReplaceCall m list content outₘ₀ startsₘ₀ endsₘ₀ b outₘ startsₘ endsₘ → b.refusal ≡ 0
    → (Equal (published a.len outₙ startsₙ endsₙ) (published b.len outₘ startsₘ endsₘ)
    → Agree n m (places_of list) content)
    × (Agree n m (places_of list) content
    → Equal (published a.len outₙ startsₙ endsₙ) (published b.len outₘ startsₘ endsₘ))

-- CLAIM: a call of `zulmyren_replace_by_edits` with scratch that is large enough, and a call of `zulmyren_replace` with
-- the same note, list, content and buffers: they give the same answer, and leave the same in the three buffers.
abbrev pub ExportedRoad : Type 0
ExportedRoad =
    (n : Note) (list content out₀ starts₀ ends₀ : List ℕ) (a₀ b₀ a b : Scratch) (r q : Written)
    (out starts ends out₁ starts₁ ends₁ : List ℕ)
    → ReplaceByEditsCall n list content out₀ starts₀ ends₀ a₀ b₀ r out starts ends a b
    → ReplaceCall n list content out₀ starts₀ ends₀ q out₁ starts₁ ends₁
    → scratch_size n list content ≤ scratch_room a₀ b₀
    → (r ≡ q) × (out ≡ out₁) × (starts ≡ starts₁) × (ends ≡ ends₁)
