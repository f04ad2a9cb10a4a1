-- Laws of `clear`: the head stays.
use Prim.Native.Nat.{ℕ, ◌≤◌, ◌<◌}
use mathlib.Core.Path.{◌≡◌, ◌∙◌, refl, sym}
use mathlib.Core.List.{List}
use native.Mathlib.Omega.{arith}
use lib.ListN.{length, take}
use lib.Seq.{length-take-le}
use Rattle.std.specs.Prelude.{Result, Ok, Err}
use Rattle.buffers.specs.Splice.{splice}
use Rattle.note.specs.declared.Refusal.{Refusal}
use Rattle.note.specs.declared.Refusal.TheVariants.{NoRoom, CountMismatch}
use Rattle.note.specs.Refusals.{least, verdict, Verdict, Accepted}
use Rattle.note.specs.Notes.{Note, Sound}
use Rattle.note.specs.Faults.{note_faults}
use Rattle.note.specs.Rank.{up_to}
use Rattle.note.proofs.FirstMet.{refused-then}
use Rattle.note.proofs.Sound.{length-starts, length-ends}
use Rattle.note.proofs.Faults.{accepted-sound}
use Rattle.edit_steps.specs.Edits.{transformed}
use Rattle.transform.specs.Transforming.{edit_faults}
use Rattle.edits.specs.Whole.{clear_edit, clear_faults, Emptied}
use Rattle.edits.specs.Plain.{widthless, head_bytes, cleared}
use Rattle.edits.proofs.Head.{head-most, cleared-closed}
use Rattle.edits.proofs.Inputs.{text_short}
use Rattle.edits.proofs.Made.{made-large, made-small, clear-refused, clear-done}

module _ (most : ℕ) (n : Note) (out₀ starts₀ ends₀ : List ℕ) {v : Verdict} (noted : v ≡ verdict (note_faults most n)) where
  abbrev rooms : ℕ
  rooms = least (length out₀) (length starts₀) (length ends₀)

  abbrev Answered : Result (ℕ × ℕ) Refusal → List ℕ → List ℕ → List ℕ → Type 0
  Answered r out starts ends =
      Emptied (verdict (clear_faults most n (least (length out₀) (length starts₀) (length ends₀)))) n (transformed n (clear_edit n)) out₀ starts₀ ends₀ r out starts ends

  pub note-refuses : {k : Refusal} → v ≡ Err k → Answered (Err k) out₀ starts₀ ends₀
  note-refuses is = clear-refused (refused-then (up_to CountMismatch) (note_faults most n) (edit_faults most n.normalized (clear_edit n) rooms) refl refl noted is)

  module _ (ok : v ≡ Accepted) where
    sound : Sound n
    sound = (accepted-sound most n (sym noted ∙ ok)).0

    pub even : length n.starts ≡ length n.ends
    even = length-starts n sound ∙ sym (length-ends n sound)

    module _ {left low : ℕ} (head : left ≡ widthless n.starts n.ends) (lowest : low ≡ least (length out₀) (length starts₀) (length ends₀)) where
      left-most : left ≤ length n.normalized
      left-most = omega (arith, head, head-most n sound)

      pub inside-all : (left ≤ length n.normalized) × ((left ≤ length n.starts) × (left ≤ length n.ends))
      inside-all = (left-most, (omega (arith, left-most, length-starts n sound), omega (arith, left-most, length-ends n sound)))

      long : length (cleared (head_bytes n) n).normalized ≡ left
      unfolding cleared
      long = rw (← head) (length-take-le left n.normalized left-most)

      pub no_room : low < left → Answered (Err NoRoom) out₀ starts₀ ends₀
      no_room h = clear-refused (made-large most n (note_faults most n) refl noted ok (clear_edit n) rooms (cleared-closed n sound) (omega (arith, long, lowest)))

      pub has-cleared : left ≤ low → {out starts ends : List ℕ} → out ≡ splice out₀ 0 (take left n.normalized) → starts ≡ splice starts₀ 0 (take left n.starts) → ends ≡ splice ends₀ 0 (take left n.ends) → Answered (Ok (length n.normalized, left)) out starts ends
      unfolding cleared
      has-cleared h o s t =
          clear-done (made-small most n (note_faults most n) refl noted ok (clear_edit n) rooms (cleared-closed n sound) (omega (arith, long, left-most, lowest, text_short most n noted ok)))
          (cleared-closed n sound).leaves (sym long) (rw head at o) (rw head at s) (rw head at t)
