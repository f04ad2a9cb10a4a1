-- Laws of `answered`: what a call on a passed note answers, by what the check of the note says; and what an accepted note's columns are.
use Prim.Native.Nat.{ℕ, ◌+◌, ◌≤◌}
use mathlib.Core.Path.{◌≡◌, ◌∙◌, ap, refl}
use mathlib.Core.Bool.{Bool, true, false, cond}
use mathlib.Core.List.{List}
use native.Mathlib.Omega.{arith}
use lib.Dec.{leb, ltb, eqb}
use lib.ListN.{length}
use borrow.Author.Tests.{leb-true}
use mathlib.Mathlib.Data.Bool.Basic.{and_elim_left, and_elim_right}
use Rattle.std.specs.Prelude.{Result, Ok, Err}
use Rattle.note.specs.declared.Refusal.{Refusal}
use Rattle.note.specs.declared.Refusal.TheVariants.{Missing, Misaligned}
use Rattle.note.specs.Refusals.{none, meets, verdict, unless_refused, Verdict, Accepted}
use Rattle.note.specs.Notes.{Note, fits, Sound}
use Rattle.note.specs.Faults.{note_faults}
use Rattle.note.specs.Rank.{up_to}
use Rattle.note.proofs.FirstMet.{refused-then, accepted-then}
use Rattle.note.proofs.Faults.{accepted-sound}
use Rattle.note.proofs.Sound.{length-starts, length-ends, forward-at}
use Rattle.convert.specs.declared.Range.{Range}
use Rattle.convert.specs.declared.Range.TheVariants.{Original, Normalized}
use Rattle.convert.specs.declared.Places.{Places}
use Rattle.convert.specs.declared.Places.TheVariants.{Neither, Last, Both}
use Rattle.convert.specs.Converting.{expanded, walked, spanned, to_original, to_normalized, converted, missing, answered}
use Rattle.convert.specs.Blocks.{OrderedColumns}

-- an answer that has no refusal but `Missing`
abbrev pub MissingOnly : Result Range Refusal → Type 0
MissingOnly answer = answer ≡ unless_refused Err (cond (missing answer) (Err Missing) Accepted) answer

pub found-or-missing : (t : Bool) (range : Range) → MissingOnly (cond t (Ok range) (Err Missing))
found-or-missing true range = refl
found-or-missing false range = refl

spanned-missing : (found : Places) → MissingOnly (spanned found)
spanned-missing Neither = refl
spanned-missing (Last last) = refl
spanned-missing (Both first last) = refl

forward-missing : (same reversed : Bool) (range : Range) (answer : Result Range Refusal) → MissingOnly answer → MissingOnly (cond same (Ok range) (cond reversed (Err Missing) answer))
forward-missing true reversed range answer only = refl
forward-missing false true range answer only = refl
forward-missing false false range answer only = only

pub converted-missing : (starts ends : List ℕ) (range : Range) → MissingOnly (converted starts ends range)
unfolding converted to_original to_normalized expanded
converted-missing starts ends (Original a b) =
    forward-missing (eqb a.0 b.0) (ltb b.0 a.0) _ _ (spanned-missing (walked starts ends a.0 b.0))
converted-missing starts ends (Normalized a b) =
    forward-missing (eqb a.0 b.0) (ltb b.0 a.0) _ _ (found-or-missing (leb b.0 (length ends)) _)

missing-verdict : (m : Bool) → cond m (Err Missing) Accepted ≡ verdict (meets Missing m none)
unfolding verdict
missing-verdict m = refl

module _ (most : ℕ) (n : Note) (answer : Result Range Refusal) {v : Verdict} (e : v ≡ verdict (note_faults most n)) where
  pub answered-refused : {k : Refusal} → v ≡ Err k → Err k ≡ answered most n answer
  unfolding answered
  answered-refused is =
      ap (λ (w : Verdict). unless_refused Err w answer) (refused-then (up_to Misaligned) (note_faults most n) (meets Missing (missing answer) none) refl refl e is)

  pub answered-accepted : v ≡ Accepted → MissingOnly answer → answer ≡ answered most n answer
  unfolding answered
  answered-accepted is only =
      only
      ∙ ap (λ (w : Verdict). unless_refused Err w answer)
      (accepted-then (up_to Misaligned) (note_faults most n) (meets Missing (missing answer) none) refl refl e is (missing-verdict (missing answer)))

pub accepted-columns : (most : ℕ) (n : Note) → verdict (note_faults most n) ≡ Accepted → OrderedColumns most n.starts n.ends
unfolding fits
accepted-columns most n ok =
    let sound : Sound n = (accepted-sound most n ok).0 in
    let s : length n.starts ≡ length n.normalized = length-starts n sound in
    let e : length n.ends ≡ length n.normalized = length-ends n sound in
    let f : length n.normalized ≤ most =
    leb-true _ _ (and_elim_right (leb (length n.original) most) _
    (and_elim_left _ (leb (n.original_shift + length n.original) most) (accepted-sound most n ok).1)) in
    record {
      paired = omega arith;
      few = omega arith;
      starts_forward = λ i h. (forward-at n sound i (omega arith)).0;
      ends_forward = λ i h. (forward-at n sound i (omega arith)).1;
    }
