-- Laws of `Started`: what `from_text` answers, by the checks that it has passed.
use Prim.Native.Nat.{ℕ, min, ◌≤◌, ◌<◌}
use mathlib.Core.Path.{◌≡◌, refl}
use mathlib.Core.List.{List}
use lib.ListN.{length}
use Rattle.std.specs.Prelude.{Err}
use Rattle.buffers.specs.Splice.{overlay}
use Rattle.note.specs.declared.Refusal.{Refusal}
use Rattle.note.specs.declared.Refusal.TheVariants.{NoRoom, IllFormed}
use Rattle.note.specs.Refusals.{verdict, Verdict, Accepted}
use Rattle.note.specs.Faults.{text_faults, room_faults}
use Rattle.note.specs.Starting.{starting}
use Rattle.note.specs.Rank.{up_to}
use Rattle.note.proofs.FirstMet.{refused-then, accepted-then}
use Rattle.note.proofs.Faults.{no_room, enough-room}
use Rattle.from_text.specs.FromText.{Started}

module _ (most : ℕ) (s a b : List ℕ) {v : Verdict} (e : v ≡ verdict (text_faults most s)) where
  abbrev room : ℕ
  room = min (length a) (length b)

  pub text-refused : {k : Refusal} → v ≡ Err k → Started most s a b (Err k) a b
  text-refused is =
      record {
        answer = refused-then (up_to IllFormed) (text_faults most s) (room_faults (length s) room) refl refl e is;
        starts_are = refl;
        ends_are = refl;
      }

  module _ (is : v ≡ Accepted) where
    pub too-little-room : room < length s → Started most s a b (Err NoRoom) a b
    too-little-room h =
        record {
          answer = accepted-then (up_to IllFormed) (text_faults most s) (room_faults (length s) room) refl refl e is (no_room h);
          starts_are = refl;
          ends_are = refl;
        }

    pub started : {a₁ b₁ : List ℕ} → length s ≤ room → a₁ ≡ overlay (starting s).starts a → b₁ ≡ overlay (starting s).ends b → Started most s a b Accepted a₁ b₁
    started h x y =
        record {
          answer = accepted-then (up_to IllFormed) (text_faults most s) (room_faults (length s) room) refl refl e is (enough-room h);
          starts_are = x;
          ends_are = y;
        }
