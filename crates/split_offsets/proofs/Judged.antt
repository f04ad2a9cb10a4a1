-- Laws of `splitsFaults`: what is said by the checks that were made, and what an accepted call tells.
use Prim.Native.Nat.{ℕ, ◌+◌, ◌≤◌}
use mathlib.Core.Path.{◌≡◌, ◌∙◌, ap, refl, sym}
use mathlib.Core.Bool.{Bool, true, false, cond, not}
use mathlib.Core.List.{List}
use native.Mathlib.Omega.{arith}
use lib.Dec.{ltb}
use lib.ListN.{length}
use borrow.Author.Tests.{not-false, lt-ltb, le-ltb}
use Rattle.std.specs.Prelude.{Err}
use Rattle.buffers.proofs.Cases.{le-or-lt}
use Rattle.note.specs.declared.Refusal.{Refusal}
use Rattle.note.specs.declared.Refusal.TheVariants.{BadMatches, NoRoom, Misaligned}
use Rattle.note.specs.Refusals.{none, meets, also, verdict, Verdict, Accepted}
use Rattle.note.specs.Notes.{Note, fits, Sound}
use Rattle.note.specs.Faults.{note_faults, room_faults}
use Rattle.note.specs.Rank.{up_to}
use Rattle.note.proofs.FirstMet.{accepted-first, accepted-second, accepted-meets, refused-then, accepted-then}
use Rattle.note.proofs.Faults.{accepted-sound, room-enough, no_room, enough-room}
use Rattle.pattern.specs.Entries.{places_of, whole_list}
use Rattle.pattern.specs.Places.{covers, covers_from, list_faults}
use Rattle.pattern.proofs.Places.{covers-places, covers-whole}
use Rattle.slice.proofs.Judged.{Short, accepted-short}
use Rattle.behaviors.specs.declared.SplitDelimiterBehavior.{SplitDelimiterBehavior}
use Rattle.behaviors.specs.declared.Sizes.{Sizes}
use Rattle.behaviors.specs.declared.EmptyPieces.TheVariants.{Dropped}
use Rattle.behaviors.specs.Runs.{sizes_with, Listed}
use Rattle.behaviors.proofs.Runs.{pieces-few}
use Rattle.split_offsets.specs.SplitOffsets.{split_pieces, splits_faults}

no_more : (a : ℕ) → 0 + a ≡ a
no_more a = omega arith

uncovered : {t : Bool} → t ≡ false → Err BadMatches ≡ verdict (meets BadMatches (not t) none)
unfolding verdict
uncovered e = rw e

covered : {t : Bool} → t ≡ true → Accepted ≡ verdict (meets BadMatches (not t) none)
unfolding verdict
covered e = rw e

room-verdict : (size room : ℕ) → cond (ltb room size) (Err NoRoom) Accepted ≡ verdict (room_faults size room)
room-verdict size room =
    le-or-lt size room (λ h. rw (le-ltb room size h) (enough-room h)) (λ h. rw (lt-ltb room size h) (no_room h))

module _ (most : ℕ) (n : Note) (list : List ℕ) (behavior : SplitDelimiterBehavior) (room : ℕ) where
  abbrev small : Refusal → Bool
  small = room_faults (length (split_pieces list behavior)) room

  -- WHAT IS SAID
  module _ {v : Verdict} (noted : v ≡ verdict (note_faults most n)) where
    pub judged-note : {k : Refusal} → v ≡ Err k → Err k ≡ verdict (splits_faults most n list behavior room)
    judged-note is = refused-then (up_to Misaligned) (note_faults most n) (also (list_faults n.normalized list) small) refl refl noted is

    module _ (ok : v ≡ Accepted) {t : Bool} (tested : t ≡ covers n.normalized list) where
      past-note : {w : Verdict} → w ≡ verdict (also (list_faults n.normalized list) small) → w ≡ verdict (splits_faults most n list behavior room)
      past-note e = accepted-then (up_to Misaligned) (note_faults most n) (also (list_faults n.normalized list) small) refl refl noted ok e

      pub judged-list : t ≡ false → Err BadMatches ≡ verdict (splits_faults most n list behavior room)
      judged-list u = past-note (refused-then (up_to BadMatches) (list_faults n.normalized list) small refl refl {v = Err BadMatches} (uncovered (sym tested ∙ u)) refl)

      pub listed : t ≡ true → Listed most list
      listed y =
          record {
            text = n.normalized;
            short = (accepted-short most n (accepted-sound most n (sym noted ∙ ok)).1).normalized_short;
            covered = covers-places n.normalized list (sym tested ∙ y);
          }

      pub judged-room : {s : Sizes} {w : Verdict} → t ≡ true → s ≡ sizes_with (record { pieces = 0; bytes = 0 }) (split_pieces list behavior) → w ≡ cond (ltb room s.pieces) (Err NoRoom) Accepted → w ≡ verdict (splits_faults most n list behavior room)
      unfolding sizes_with
      judged-room {s = s} y sum is =
          let size : s.pieces ≡ length (split_pieces list behavior) = ap (λ (x : Sizes). x.pieces) sum ∙ no_more (length (split_pieces list behavior)) in
          past-note (accepted-then (up_to BadMatches) (list_faults n.normalized list) small refl refl {v = Accepted} (covered (sym tested ∙ y)) refl
          (is ∙ rw size (room-verdict (length (split_pieces list behavior)) room)))

      -- as many pieces as places
      pub judged-roomy : {places : ℕ} → t ≡ true → length (places_of list) ≤ places → places ≤ room → Accepted ≡ verdict (splits_faults most n list behavior room)
      judged-roomy y few enough =
          let some : length (split_pieces list behavior) ≤ room = omega (arith, pieces-few behavior Dropped (places_of list)) in
          past-note (accepted-then (up_to BadMatches) (list_faults n.normalized list) small refl refl {v = Accepted} (covered (sym tested ∙ y)) refl (enough-room some))

  -- WHAT AN ACCEPTED CALL TELLS
  module _ (e : verdict (splits_faults most n list behavior room) ≡ Accepted) where
    rest : verdict (also (list_faults n.normalized list) small) ≡ Accepted
    rest = accepted-second (note_faults most n) (also (list_faults n.normalized list) small) e

    noted-sound : Sound n × (fits most n ≡ true)
    noted-sound = accepted-sound most n (accepted-first (note_faults most n) (also (list_faults n.normalized list) small) e)

    pub accepted-note : Sound n
    accepted-note = noted-sound.0

    pub accepted-lengths : Short most n
    accepted-lengths = accepted-short most n noted-sound.1

    covers-list : covers n.normalized list ≡ true
    covers-list =
        not-false (covers n.normalized list) (accepted-meets (list_faults n.normalized list) (accepted-first (list_faults n.normalized list) small rest) BadMatches)

    pub accepted-covers : covers_from n.normalized 0 (places_of list) ≡ true
    accepted-covers = covers-places n.normalized list covers-list

    pub accepted-whole : whole_list list ≡ true
    accepted-whole = covers-whole n.normalized list covers-list

    pub accepted-room : length (split_pieces list behavior) ≤ room
    accepted-room = room-enough (length (split_pieces list behavior)) room (accepted-second (list_faults n.normalized list) small rest)
