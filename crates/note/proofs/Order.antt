-- The order of refusals that the code compares by: it is that of their ranks.
use mathlib.Core.Path.{◌≡◌, ap, refl, sym}
use mathlib.Core.Bool.{Bool, true, false, cond, not}
use lib.Dec.{ltb}
use Rattle.std.specs.declared.cmp.Ordering.{Ordering}
use Rattle.std.specs.Ordering.{is_lt, ord_min}
use Rattle.note.specs.contracts.RefusalOrd.TheImpl as ord
use Rattle.note.specs.declared.Refusal.{Refusal}
use Rattle.note.specs.declared.Refusal.TheVariants.{IllFormed, TooLong, LengthMismatch, Misaligned, NotBoundary, BadScript, Exhausted, BadMatches, NoRoom, Missing, CountMismatch}
use Rattle.note.specs.Refusals.{verdict, Accepted}
use Rattle.note.specs.Rank.{rank}
use Rattle.note.proofs.FirstMet.{accepted-meets}

abbrev compared : Refusal → Refusal → Ordering
compared = (ord.cmp-value).it

unlike : Bool → Bool → Bool
unlike a b = cond a (not b) b

alike : (a b : Bool) → unlike a b ≡ false → a ≡ b
unfolding unlike
alike true true e = refl
alike true false e = e
alike false b e = sym e

-- whether the two orders differ
abbrev differs : Refusal → Refusal → Bool
differs j k = unlike (is_lt (compared k j)) (ltb (rank k) (rank j))

nowhere : (j : Refusal) → verdict (differs j) ≡ Accepted
unfolding verdict unlike
nowhere TooLong = refl
nowhere LengthMismatch = refl
nowhere IllFormed = refl
nowhere Misaligned = refl
nowhere BadScript = refl
nowhere BadMatches = refl
nowhere CountMismatch = refl
nowhere NotBoundary = refl
nowhere Missing = refl
nowhere Exhausted = refl
nowhere NoRoom = refl

pub least-rank : (j k : Refusal) → ord_min compared j k ≡ cond (ltb (rank k) (rank j)) k j
least-rank j k = ap (λ (t : Bool). cond t k j) (alike _ _ (accepted-meets (differs j) (nowhere j) k))
