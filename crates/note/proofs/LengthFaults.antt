-- Laws of `lengthFaults`, beside the conditions of the input that the list is for.
use Prim.Native.Nat.{ℕ}
use mathlib.Core.Path.{◌≡◌, ◌∙◌, refl, sym}
use mathlib.Core.Bool.{Bool, cond, not}
use mathlib.Core.List.{List}
use lib.Dec.{eqb}
use lib.ListN.{length}
use borrow.Author.Tests.{eqb-true, not-false}
use Rattle.std.specs.Prelude.{Err}
use Rattle.note.specs.declared.Refusal.{Refusal}
use Rattle.note.specs.declared.Refusal.TheVariants.{LengthMismatch}
use Rattle.note.specs.Refusals.{also, verdict, Verdict, Accepted}
use Rattle.note.specs.Rank.{earlier}
use Rattle.note.specs.Faults.{length_faults}
use Rattle.note.proofs.FirstMet.{accepted-meets, accepted-first, accepted-second, earlier-of}

list-verdict : (starts ends : List ℕ) → cond (not (eqb (length starts) (length ends))) (Err LengthMismatch) Accepted ≡ verdict (length_faults starts ends)
unfolding verdict
list-verdict starts ends = refl

module _ (f : Refusal → Bool) (starts ends : List ℕ) {v w u : Verdict} (p : v ≡ verdict f) (q : w ≡ cond (not (eqb (length starts) (length ends))) (Err LengthMismatch) Accepted) (both : u ≡ earlier v w) where
  pub beside-list : u ≡ verdict (also f (length_faults starts ends))
  beside-list = earlier-of f (length_faults starts ends) p (q ∙ list-verdict starts ends) both

  module _ (ok : u ≡ Accepted) where
    pub input-accepted : verdict f ≡ Accepted
    input-accepted = accepted-first f (length_faults starts ends) (sym beside-list ∙ ok)

    pub list-even : length starts ≡ length ends
    list-even =
        eqb-true _ _ (not-false (eqb (length starts) (length ends))
        (accepted-meets (length_faults starts ends) (accepted-second f (length_faults starts ends) (sym beside-list ∙ ok)) LengthMismatch))
