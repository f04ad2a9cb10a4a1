-- Laws of the refusal conditions of a passed note and a passed text.
use Prim.Native.Nat.{ℕ, ◌≤◌, ◌<◌}
use mathlib.Core.Path.{◌≡◌}
use mathlib.Core.Bool.{true, ◌&&◌}
use mathlib.Mathlib.Data.Bool.Basic.{and_elim_left, and_elim_right}
use mathlib.Core.List.{List}
use lib.Dec.{leb}
use lib.ListN.{length}
use borrow.Author.Tests.{leb-true, not-false, le-leb, lt-leb}
use Rattle.std.specs.Prelude.{Err}
use Rattle.utf8.specs.Formed.{well_formed}
use Rattle.note.specs.declared.Refusal.TheVariants.{IllFormed, TooLong, LengthMismatch, Misaligned, NoRoom}
use Rattle.note.specs.Refusals.{verdict, Accepted}
use Rattle.note.specs.Notes.{Note, fits, paired, texts_formed, aligned, Sound}
use Rattle.note.specs.Faults.{note_faults, text_faults, string_faults, room_faults, AcceptedSound}
use Rattle.note.proofs.FirstMet.{accepted-meets}

pub accepted-sound : AcceptedSound
accepted-sound most n e =
    let no = accepted-meets (note_faults most n) e in (
      record {
        has_pairs = not-false (paired n) (no LengthMismatch);
        has_texts = not-false (texts_formed n) (no IllFormed);
        has_alignments = not-false (aligned n) (no Misaligned);
      },
      not-false (fits most n) (no TooLong),
    )

pub sound-accepted : (most : ℕ) (n : Note) → Sound n → fits most n ≡ true → verdict (note_faults most n) ≡ Accepted
unfolding verdict
sound-accepted most n s f = simp (f, s.has_pairs, s.has_texts, s.has_alignments)

pub normalized_short : (most : ℕ) (n : Note) → fits most n ≡ true → length n.normalized ≤ most
unfolding fits
normalized_short most n within =
    leb-true (length n.normalized) most (and_elim_right (leb (length n.original) most) _ (and_elim_left (leb (length n.original) most && leb (length n.normalized) most) _ within))

-- an accepted text, string and room
pub text_short : (most : ℕ) (s : List ℕ) → verdict (text_faults most s) ≡ Accepted → length s ≤ most
text_short most s e = leb-true (length s) most (not-false (leb (length s) most) (accepted-meets (text_faults most s) e TooLong))

pub text_formed : (most : ℕ) (s : List ℕ) → verdict (text_faults most s) ≡ Accepted → well_formed s ≡ true
text_formed most s e = not-false (well_formed s) (accepted-meets (text_faults most s) e IllFormed)

pub string-formed : (s : List ℕ) → verdict (string_faults s) ≡ Accepted → well_formed s ≡ true
string-formed s e = not-false (well_formed s) (accepted-meets (string_faults s) e IllFormed)

pub room-enough : (size room : ℕ) → verdict (room_faults size room) ≡ Accepted → size ≤ room
room-enough size room e = leb-true size room (not-false (leb size room) (accepted-meets (room_faults size room) e NoRoom))

-- a room that is too small, and one that is not
pub no_room : {size room : ℕ} → room < size → Err NoRoom ≡ verdict (room_faults size room)
unfolding verdict
no_room {size} {room} h = simp (lt-leb size room h)

pub enough-room : {size room : ℕ} → size ≤ room → Accepted ≡ verdict (room_faults size room)
unfolding verdict
enough-room {size} {room} h = simp (le-leb size room h)
