-- An edit after inputs that are accepted: what it is refused for, by the note that it makes.
use Prim.Native.Nat.{ℕ, ◌≤◌, ◌<◌, min}
use mathlib.Core.Path.{◌≡◌, ◌∙◌, ap, refl}
use mathlib.Core.Bool.{Bool, true}
use mathlib.Core.List.{List}
use native.Mathlib.Omega.{arith}
use lib.ListN.{length, drop}
use Rattle.std.specs.Prelude.{Ok, Err}
use Rattle.buffers.specs.Splice.{splice}
use Rattle.buffers.proofs.Splice.{splice-overlay}
use Rattle.note.specs.declared.Refusal.{Refusal}
use Rattle.note.specs.declared.Refusal.TheVariants.{NoRoom, CountMismatch}
use Rattle.note.specs.Refusals.{order, also, verdict, Verdict, Accepted}
use Rattle.note.specs.Notes.{Note}
use Rattle.note.specs.Rank.{up_to}
use Rattle.note.proofs.FirstMet.{unmet, accepted-then}
use Rattle.edit_steps.specs.Edits.{characters, Edit, edited, transformed}
use Rattle.transform.specs.Transforming.{edit_faults}
use Rattle.transform.proofs.Verdicts.{too_large, small-enough}
use Rattle.edits.specs.Whole.{Emptied}
use Rattle.edits.specs.Plain.{Makes}

module _ (most : ℕ) (n : Note) (inputs : Refusal → Bool) (low : unmet (drop (up_to CountMismatch) order) inputs ≡ true) {v : Verdict} (judged : v ≡ verdict inputs) (ok : v ≡ Accepted) (e : Edit) (room : ℕ) where
  abbrev rest : Refusal → Bool
  rest = edit_faults most n.normalized e room

  last : {w : Verdict} → w ≡ verdict rest → w ≡ verdict (also inputs rest)
  last is = accepted-then (up_to CountMismatch) inputs rest low refl judged ok is

  module _ {made : Note} (m : Makes n e made) where
    size : length (edited characters n.normalized e n.normalized) ≡ length made.normalized
    unfolding transformed
    size = ap (λ (x : Note). length x.normalized) m.leaves

    pub made-large : min most room < length made.normalized → Err NoRoom ≡ verdict (also inputs rest)
    made-large h = last (too_large most n.normalized e room m.lies m.feeds (omega (arith, size)))

    pub made-small : length made.normalized ≤ min most room → Accepted ≡ verdict (also inputs rest)
    made-small h = last (small-enough most n.normalized e room m.lies m.feeds (omega (arith, size)))

-- what the verdict leaves of a call of `clear`
pub clear-refused : {v : Verdict} {n made : Note} {out starts ends : List ℕ} {k : Refusal} → Err k ≡ v → Emptied v n made out starts ends (Err k) out starts ends
clear-refused e = rw (← e) (record { answer = refl; text_is = refl; starts_are = refl; ends_are = refl })

pub clear-done : {v : Verdict} {n was made : Note} {out₀ starts₀ ends₀ : List ℕ} {left : ℕ} {out starts ends : List ℕ} → Accepted ≡ v → was ≡ made
    → left ≡ length made.normalized → out ≡ splice out₀ 0 made.normalized → starts ≡ splice starts₀ 0 made.starts
    → ends ≡ splice ends₀ 0 made.ends → Emptied v n was out₀ starts₀ ends₀ (Ok (length n.normalized, left)) out starts ends
clear-done {n = n} {made = made} {out₀} {starts₀} {ends₀} e same long o s t =
    rw (← e, same) (record {
      answer = ap (λ (x : ℕ). Ok (length n.normalized, x)) long;
      text_is = o ∙ splice-overlay out₀ made.normalized;
      starts_are = s ∙ splice-overlay starts₀ made.starts;
      ends_are = t ∙ splice-overlay ends₀ made.ends;
    })
