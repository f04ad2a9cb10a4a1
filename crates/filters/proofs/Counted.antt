-- Laws of the refusals before the edit of `filter`, and of the edit that the whole range asks for.
use Prim.Native.Nat.{ℕ}
use mathlib.Core.Path.{◌≡◌, ◌∙◌, refl, sym}
use mathlib.Core.Bool.{Bool, not}
use mathlib.Core.List.{List, []}
use lib.Dec.{eqb}
use lib.ListN.{length}
use borrow.Author.Tests.{eq-eqb, ne_eqb}
use Rattle.std.specs.Prelude.{Result, Ok, Err}
use Rattle.utf8.specs.Chars.{chars, leads}
use Rattle.utf8.proofs.Chars.{chars-leads}
use Rattle.note.specs.declared.Refusal.{Refusal}
use Rattle.note.specs.declared.Refusal.TheVariants.{CountMismatch, Misaligned}
use Rattle.note.specs.Refusals.{none, meets, also, verdict, Verdict, Accepted}
use Rattle.note.specs.Notes.{Note}
use Rattle.note.specs.Faults.{note_faults}
use Rattle.note.specs.Rank.{up_to}
use Rattle.note.proofs.FirstMet.{refused-then, accepted-then}
use Rattle.note.proofs.Sound.{normalized-formed}
use Rattle.note.proofs.Faults.{accepted-sound}
use Rattle.convert.specs.declared.Range.{Range}
use Rattle.convert.specs.Converting.{start_of, end_of}
use Rattle.script.specs.Scripts.{commands_of}
use Rattle.edit_steps.specs.Edits.{skipped}
use Rattle.convert.specs.Converting.{as_normalized}
use Rattle.transform.proofs.Verdicts.{edit-found, edit-none}
use Rattle.edits.specs.Whole.{whole_range, filter_edit}
use Rattle.filters.specs.Flags.{skips, first_kept, flag_commands}

abbrev pub flag_faults : List ℕ → List ℕ → Refusal → Bool
flag_faults text flags = meets CountMismatch (not (eqb (length flags) (chars text))) none

pub begun-skipped : (s : List ℕ) (b from : ℕ) (flags : List ℕ) → first_kept s b from flags ≡ skipped s b (skips flags) from
unfolding first_kept
begun-skipped s b from flags = refl

module _ (most : ℕ) (n : Note) (flags : List ℕ) {v : Verdict} (noted : v ≡ verdict (note_faults most n)) where
  pub note-first : {k : Refusal} → v ≡ Err k → Err k ≡ verdict (also (note_faults most n) (flag_faults n.normalized flags))
  note-first e = refused-then (up_to Misaligned) (note_faults most n) (flag_faults n.normalized flags) refl refl noted e

  module _ (ok : v ≡ Accepted) {m : ℕ} (counted : m ≡ leads n.normalized) where
    number : m ≡ chars n.normalized
    number = counted ∙ sym (chars-leads n.normalized (normalized-formed n (accepted-sound most n (sym noted ∙ ok)).0))

    pub flag-each : length flags ≡ m → length flags ≡ chars n.normalized
    flag-each h = h ∙ number

    count-verdict : (length flags ≡ m → ⊥) → Err CountMismatch ≡ verdict (flag_faults n.normalized flags)
    unfolding verdict
    count-verdict h = rw (ne_eqb (length flags) (chars n.normalized) (λ z. h (z ∙ sym number)))

    even : length flags ≡ m → Accepted ≡ verdict (flag_faults n.normalized flags)
    unfolding verdict
    even h = rw (eq-eqb (length flags) (chars n.normalized) (h ∙ number))

    pub count-refused : (length flags ≡ m → ⊥) → Err CountMismatch ≡ verdict (also (note_faults most n) (flag_faults n.normalized flags))
    count-refused h = accepted-then (up_to Misaligned) (note_faults most n) (flag_faults n.normalized flags) refl refl noted ok (count-verdict h)

    pub well-counted : length flags ≡ m → Accepted ≡ verdict (also (note_faults most n) (flag_faults n.normalized flags))
    well-counted h = accepted-then (up_to Misaligned) (note_faults most n) (flag_faults n.normalized flags) refl refl noted ok (even h)

module _ (n : Note) (flags : List ℕ) {x : Result Range Refusal} (is : x ≡ as_normalized n.starts n.ends (whole_range n)) where
  pub filter-found : {r : Range} {a b : ℕ} → x ≡ Ok r → a ≡ start_of r → b ≡ end_of r → record { from = a; to = b; skip = skips flags; commands = flag_commands n.normalized flags } ≡ filter_edit n flags
  unfolding filter_edit skips flag_commands
  filter-found found from to = edit-found _ _ is found from to

  pub filter_none : {k : Refusal} → x ≡ Err k → record { from = 0; to = 0; skip = 0; commands = commands_of [] } ≡ filter_edit n flags
  unfolding filter_edit
  filter_none none = edit-none _ _ is none
