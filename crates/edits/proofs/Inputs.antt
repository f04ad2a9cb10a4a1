-- Laws of the refusals before an edit: the note's, then those of what is passed beside it.
use Prim.Native.Nat.{ℕ, ◌≤◌}
use mathlib.Core.Path.{◌≡◌, ◌∙◌, refl, sym}
use mathlib.Core.Bool.{Bool, true, false, not}
use mathlib.Mathlib.Data.Bool.Basic.{and_elim_left, and_elim_right}
use mathlib.Core.List.{List}
use lib.Dec.{leb}
use lib.ListN.{length}
use borrow.Author.Tests.{not-true, not-false, leb-true, eq-eqb, ne_eqb}
use Rattle.std.specs.Prelude.{Err}
use Rattle.utf8.specs.Chars.{chars, leads}
use Rattle.utf8.proofs.Chars.{chars-leads}
use Rattle.note.specs.declared.Refusal.{Refusal}
use Rattle.note.specs.declared.Refusal.TheVariants.{BadScript, CountMismatch, Misaligned}
use Rattle.note.specs.Refusals.{also, verdict, Verdict, Accepted}
use Rattle.note.specs.Notes.{Note, fits}
use Rattle.note.specs.Faults.{note_faults}
use Rattle.note.specs.Rank.{up_to}
use Rattle.note.proofs.FirstMet.{refused-then, accepted-then}
use Rattle.note.proofs.Sound.{normalized-formed}
use Rattle.note.proofs.Faults.{accepted-sound}
use Rattle.code_point_blocks.specs.Codes.{all_scalar}
use Rattle.edits.specs.Whole.{codes_faults}

module _ (most : ℕ) (n : Note) {v : Verdict} (noted : v ≡ verdict (note_faults most n)) (ok : v ≡ Accepted) where
  pub note-short : length n.original ≤ most
  unfolding fits
  note-short =
      let within = (accepted-sound most n (sym noted ∙ ok)).1 in
      leb-true _ _ (and_elim_left _ (leb (length n.normalized) most) (and_elim_left _ _ within))

  pub text_short : length n.normalized ≤ most
  unfolding fits
  text_short =
      let within = (accepted-sound most n (sym noted ∙ ok)).1 in
      leb-true _ _ (and_elim_right (leb (length n.original) most) _ (and_elim_left _ _ within))

-- code points
module _ (most : ℕ) (n : Note) (codes : List ℕ) {v : Verdict} (noted : v ≡ verdict (note_faults most n)) where
  pub note-first : {k : Refusal} → v ≡ Err k → Err k ≡ verdict (also (note_faults most n) (codes_faults n.normalized codes))
  note-first e = refused-then (up_to Misaligned) (note_faults most n) (codes_faults n.normalized codes) refl refl noted e

  module _ (ok : v ≡ Accepted) {t : Bool} (is : t ≡ all_scalar codes) where
    second : {w : Verdict} → w ≡ verdict (codes_faults n.normalized codes) → w ≡ verdict (also (note_faults most n) (codes_faults n.normalized codes))
    second e = accepted-then (up_to Misaligned) (note_faults most n) (codes_faults n.normalized codes) refl refl noted ok e

    bad : not t ≡ true → Err BadScript ≡ verdict (codes_faults n.normalized codes)
    unfolding verdict
    bad u = rw (sym is ∙ not-true t u)

    pub bad-codes : not t ≡ true → Err BadScript ≡ verdict (also (note_faults most n) (codes_faults n.normalized codes))
    bad-codes u = second (bad u)

    module _ (u : not t ≡ false) {m : ℕ} (counted : m ≡ leads n.normalized) where
      number : m ≡ chars n.normalized
      number = counted ∙ sym (chars-leads n.normalized (normalized-formed n (accepted-sound most n (sym noted ∙ ok)).0))

      count-verdict : (length codes ≡ m → ⊥) → Err CountMismatch ≡ verdict (codes_faults n.normalized codes)
      unfolding verdict
      count-verdict h = rw (sym is ∙ not-false t u, ne_eqb (length codes) (chars n.normalized) (λ z. h (z ∙ sym number)))

      even : length codes ≡ m → Accepted ≡ verdict (codes_faults n.normalized codes)
      unfolding verdict
      even h = rw (sym is ∙ not-false t u, eq-eqb (length codes) (chars n.normalized) (h ∙ number))

      pub count-refused : (length codes ≡ m → ⊥) → Err CountMismatch ≡ verdict (also (note_faults most n) (codes_faults n.normalized codes))
      count-refused h = second (count-verdict h)

      pub well-counted : length codes ≡ m → Accepted ≡ verdict (also (note_faults most n) (codes_faults n.normalized codes))
      well-counted h = second (even h)
