-- Laws of `letterCount`: what the call answers, by the checks that it has passed.
use Prim.Native.Nat.{ℕ, ◌-◌, ◌≤◌}
use mathlib.Core.Path.{◌≡◌, ◌∙◌, ap, refl, sym}
use mathlib.Core.Bool.{Bool, true, false, cond, not}
use mathlib.Core.List.{List}
use native.Mathlib.Omega.{arith}
use lib.ListN.{drop, length-take}
use Rattle.std.specs.Prelude.{Result, Ok, Err}
use Rattle.buffers.specs.Splice.{part}
use Rattle.utf8.specs.Formed.{well_formed, char_range}
use Rattle.utf8.specs.Chars.{leads, chars}
use Rattle.utf8.proofs.Boundaries.{formed-part, Between, char-range-between}
use Rattle.utf8.proofs.Chars.{chars-leads, leads-le-length}
use Rattle.note.specs.declared.Refusal.{Refusal}
use Rattle.note.specs.declared.Refusal.TheVariants.{NotBoundary, IllFormed}
use Rattle.note.specs.Refusals.{none, meets, verdict, unless_refused, Verdict, Accepted}
use Rattle.note.specs.Faults.{text_faults}
use Rattle.note.proofs.Faults.{text_formed}
use Rattle.note.specs.Rank.{up_to}
use Rattle.note.proofs.FirstMet.{refused-then, accepted-then}
use Rattle.char_offsets.specs.Counting.{letter_count}

-- the range's own condition
abbrev range_off_faults : List ℕ → ℕ → ℕ → Refusal → Bool
range_off_faults s a e = meets NotBoundary (not (char_range s a e)) none

range-verdict : (s : List ℕ) (a e : ℕ) → verdict (range_off_faults s a e) ≡ cond (not (char_range s a e)) (Err NotBoundary) Accepted
unfolding verdict
range-verdict s a e = refl

pub leads-part-le : (s : List ℕ) (a e : ℕ) → leads (part s a e) ≤ e
leads-part-le s a e = omega (arith, leads-le-length (part s a e), length-take (e - a) (drop a s))

module _ (most : ℕ) (s : List ℕ) (a e : ℕ) {v : Verdict} (is : v ≡ verdict (text_faults most s)) where
  abbrev answer : Verdict → Result ℕ Refusal
  answer w = unless_refused Err w (Ok (chars (part s a e)))

  pub count-refused : {k : Refusal} → v ≡ Err k → Err k ≡ letter_count most s a e
  unfolding letter_count
  count-refused text = ap answer (refused-then (up_to IllFormed) (text_faults most s) (range_off_faults s a e) refl refl is text)

  module _ (ok : v ≡ Accepted) {t : Bool} (tested : t ≡ char_range s a e) where
    pub count-off : t ≡ false → Err NotBoundary ≡ letter_count most s a e
    unfolding letter_count
    count-off q =
        let off : Err NotBoundary ≡ verdict (range_off_faults s a e) = sym (range-verdict s a e ∙ rw (← tested, q)) in
        ap answer (accepted-then (up_to IllFormed) (text_faults most s) (range_off_faults s a e) refl refl is ok off)

    pub count_is : {r : ℕ} → t ≡ true → r ≡ leads (part s a e) → Ok r ≡ letter_count most s a e
    unfolding letter_count
    count_is q n =
        let on : Accepted ≡ verdict (range_off_faults s a e) = sym (range-verdict s a e ∙ rw (← tested, q)) in
        let range : Between s a e = char-range-between s a e (sym tested ∙ q) in
        let formed : well_formed (part s a e) ≡ true =
        formed-part s a e (text_formed most s (sym is ∙ ok)) range.from_boundary range.to_boundary range.onward in
        ap Ok (n ∙ sym (chars-leads (part s a e) formed))
        ∙ ap answer (accepted-then (up_to IllFormed) (text_faults most s) (range_off_faults s a e) refl refl is ok on)
