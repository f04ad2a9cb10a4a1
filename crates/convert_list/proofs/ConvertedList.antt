-- Laws of `ConvertedList`: what the call answers, by the checks that it has passed.
use Prim.Native.Nat.{ℕ, ◌≤◌, ◌<◌}
use mathlib.Core.Path.{◌≡◌, refl}
use mathlib.Core.Bool.{Bool, cond, not}
use mathlib.Core.List.{List}
use lib.Dec.{eqb}
use lib.ListN.{length}
use Rattle.std.specs.Prelude.{Err}
use Rattle.note.specs.declared.Refusal.{Refusal}
use Rattle.note.specs.declared.Refusal.TheVariants.{LengthMismatch, NoRoom, Misaligned}
use Rattle.note.specs.Refusals.{also, verdict, least, Verdict, Accepted}
use Rattle.note.specs.Rank.{earlier}
use Rattle.note.specs.Notes.{Note}
use Rattle.note.specs.Faults.{note_faults, room_faults, length_faults}
use Rattle.note.specs.Rank.{up_to}
use Rattle.note.proofs.FirstMet.{refused-then, accepted-then}
use Rattle.note.proofs.LengthFaults.{beside-list, input-accepted}
use Rattle.note.proofs.Faults.{no_room, enough-room}
use Rattle.convert.specs.declared.OffsetReferential.{OffsetReferential}
use Rattle.convert.specs.Converting.{converted, convert_offsets}
use Rattle.convert.proofs.Answered.{answered-accepted, converted-missing}
use Rattle.convert_list.specs.ConvertList.{answer_at, ConvertedList}
use Rattle.convert_list.specs.TwoReads.{AnswersWritten}

-- on an accepted note the single call converts
single : (most : ℕ) (n : Note) → verdict (note_faults most n) ≡ Accepted → converted n.starts n.ends ≡ convert_offsets most n
unfolding convert_offsets
single most n ok = λ j range. answered-accepted most n (converted n.starts n.ends range) refl ok (converted-missing n.starts n.ends range) j

abbrev inputs : ℕ → Note → List ℕ → List ℕ → Refusal → Bool
inputs most n from to = also (note_faults most n) (length_faults from to)

module _ (most : ℕ) (n : Note) (side : OffsetReferential) (from to n₀ s₀ e₀ : List ℕ) {v w u : Verdict} (p : v ≡ verdict (note_faults most n)) (q : w ≡ cond (not (eqb (length from) (length to))) (Err LengthMismatch) Accepted) (both : u ≡ earlier v w) where
  abbrev room : ℕ
  room = least (length n₀) (length s₀) (length e₀)

  abbrev rooms : Refusal → Bool
  rooms = room_faults (length from) room

  pub list-refused : {k : Refusal} → u ≡ Err k → ConvertedList most n side from to n₀ s₀ e₀ (Err k) n₀ s₀ e₀
  list-refused is =
      record {
        answer = refused-then (up_to Misaligned) (inputs most n from to) rooms refl refl (beside-list (note_faults most n) from to p q both) is;
        numbers_are = refl;
        starts_are = refl;
        ends_are = refl;
      }

  module _ (ok : u ≡ Accepted) where
    pub too-little-room : room < length from → ConvertedList most n side from to n₀ s₀ e₀ (Err NoRoom) n₀ s₀ e₀
    too-little-room h =
        record {
          answer = accepted-then (up_to Misaligned) (inputs most n from to) rooms refl refl (beside-list (note_faults most n) from to p q both) ok (no_room h);
          numbers_are = refl;
          starts_are = refl;
          ends_are = refl;
        }

    pub all-converted : {n₁ s₁ e₁ : List ℕ} → length from ≤ room → AnswersWritten (answer_at (converted n.starts n.ends) side from to) (length from) n₀ s₀ e₀ n₁ s₁ e₁ → ConvertedList most n side from to n₀ s₀ e₀ Accepted n₁ s₁ e₁
    all-converted h written =
        let calls = single most n (input-accepted (note_faults most n) from to p q both ok) in
        record {
          answer = accepted-then (up_to Misaligned) (inputs most n from to) rooms refl refl (beside-list (note_faults most n) from to p q both) ok (enough-room h);
          numbers_are = rw (← calls) written.numbers_are;
          starts_are = rw (← calls) written.starts_are;
          ends_are = rw (← calls) written.ends_are;
        }
