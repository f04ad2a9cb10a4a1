-- RULES 2: which refusal conditions a passed note and a passed text meet, under a limit. Every call that is passed one has
-- them among its own.
use Rattle.std.specs.Prelude.{ℕ, ◌≡◌, Bool, true, not, List, leb, eqb, length}
use Rattle.utf8.specs.Formed.{well_formed}
use Rattle.note.specs.declared.Refusal.{Refusal}
use Rattle.note.specs.declared.Refusal.TheVariants.{IllFormed, TooLong, LengthMismatch, Misaligned, NoRoom}
use Rattle.note.specs.Refusals.{none, meets, verdict, Accepted}
use Rattle.note.specs.Notes.{Note, fits, paired, texts_formed, aligned, Sound}

-- a note: too long, uneven, not UTF-8, not aligned
abbrev pub note_faults : ℕ → Note → Refusal → Bool
note_faults most n =
    meets TooLong (not (fits most n))
    (meets LengthMismatch (not (paired n))
    (meets IllFormed (not (texts_formed n))
    (meets Misaligned (not (aligned n)) none)))

-- a text alone: too long, not UTF-8
abbrev pub text_faults : ℕ → List ℕ → Refusal → Bool
text_faults most s = meets TooLong (not (leb (length s) most)) (meets IllFormed (not (well_formed s)) none)

-- another string of the call, which has no limit: not UTF-8
abbrev pub string_faults : List ℕ → Refusal → Bool
string_faults s = meets IllFormed (not (well_formed s)) none

-- a list of ranges or pairs, which comes in two columns: not as many ends as starts
abbrev pub length_faults : List ℕ → List ℕ → Refusal → Bool
length_faults starts ends = meets LengthMismatch (not (eqb (length starts) (length ends))) none

-- a result of so many elements beside the room for it
abbrev pub room_faults : ℕ → ℕ → Refusal → Bool
room_faults size room = meets NoRoom (not (leb size room)) none

-- CLAIM: a note that is accepted is sound, and within the limit.
abbrev pub AcceptedSound : Type 0
AcceptedSound = (most : ℕ) (n : Note) → verdict (note_faults most n) ≡ Accepted → Sound n × (fits most n ≡ true)
