-- Laws of `sliceFaults`: what the call says, by the checks that were made, and what an accepted call tells.
use Prim.Native.Nat.{ℕ, ◌+◌, ◌-◌, ◌≤◌, ◌<◌, min}
use mathlib.Core.Path.{◌≡◌, ◌∙◌, ap, refl, sym}
use mathlib.Core.Bool.{Bool, true, false, cond, ◌&&◌, not}
use mathlib.Core.List.{List}
use mathlib.Core.Logic.{⊎_elim}
use mathlib.Mathlib.Data.Bool.Basic.{and_elim_left, and_elim_right}
use native.Mathlib.Omega.{arith}
use lib.Dec.{leb}
use lib.ListN.{length}
use borrow.Author.Tests.{leb-true, not-false}
use Rattle.std.specs.Prelude.{Result, Ok, Err}
use Rattle.buffers.specs.Splice.{part, splice}
use Rattle.buffers.proofs.Cases.{true-or-false}
use Rattle.buffers.proofs.Splice.{length_part, part-index, splice-overlay}
use Rattle.note.specs.declared.Refusal.{Refusal}
use Rattle.note.specs.declared.Refusal.TheVariants.{NotBoundary, Missing, NoRoom, Misaligned}
use Rattle.note.specs.Refusals.{none, meets, also, verdict, unless_refused, Verdict, Accepted}
use Rattle.note.specs.Notes.{Note, fits, Sound}
use Rattle.note.specs.Faults.{note_faults, room_faults}
use Rattle.note.specs.Rank.{up_to}
use Rattle.note.proofs.FirstMet.{accepted-first, accepted-second, accepted-meets, refused-then, accepted-then}
use Rattle.note.proofs.Faults.{accepted-sound, room-enough, no_room, enough-room}
use Rattle.note.proofs.Sound.{length-starts, length-ends, inside-at}
use Rattle.convert.specs.declared.Range.{Range}
use Rattle.convert.specs.Converting.{in_original, in_normalized}
use Rattle.convert.specs.Converting.{as_original, as_normalized}
use Rattle.slice.specs.declared.NoteSlice.{NoteSlice}
use Rattle.slice.specs.Slicing.{valid_range, slice_of, sliced, unplaced, slice_missing, slice_size, slice_faults, sliced_column, Slicing, lowered, original_start_of, normalized_start_of, normalized_end_of}
use Rattle.slice.specs.Writing.{SliceJudged, Shiftable, Lowerable}
use Rattle.slice.proofs.Cutting.{Cutting, cutting, start-near}

-- an accepted note's lengths
pub record Short (most : ℕ) (n : Note) : Type 0 where
  pub original_short : length n.original ≤ most
  pub normalized_short : length n.normalized ≤ most
  pub shift_low : n.original_shift ≤ most

pub accepted-short : (most : ℕ) (n : Note) → fits most n ≡ true → Short most n
unfolding fits
accepted-short most n f =
    let near : (leb (length n.original) most && leb (length n.normalized) most) ≡ true = and_elim_left _ _ f in
    let far : n.original_shift + length n.original ≤ most = leb-true _ _ (and_elim_right (leb (length n.original) most && leb (length n.normalized) most) _ f) in
    record {
      original_short = leb-true _ _ (and_elim_left (leb (length n.original) most) _ near);
      normalized_short = leb-true _ _ (and_elim_right (leb (length n.original) most) _ near);
      shift_low = omega arith;
    }

-- a slice by the numbers of its range in both texts
module _ (n : Note) (range : Range) (k : Cutting n range) where
  pub sliced-is : sliced n range ≡ slice_of (Ok (in_original k.a k.b)) (Ok (in_normalized k.c k.d)) n.original_shift
  unfolding sliced
  sliced-is = rw (k.original_is, k.normalized_is)

  cut_on : normalized_start_of (sliced n range) ≤ normalized_end_of (sliced n range)
  unfolding slice_of
  cut_on = rw sliced-is k.forward

-- WHAT IS SAID, from check to check
module _ {t : Bool} where
  off-met : t ≡ false → Err NotBoundary ≡ verdict (meets NotBoundary (not t) none)
  unfolding verdict
  off-met e = rw e

  off-unmet : t ≡ true → Accepted ≡ verdict (meets NotBoundary (not t) none)
  unfolding verdict
  off-unmet e = rw e

  gone-met : t ≡ true → Err Missing ≡ verdict (meets Missing t none)
  unfolding verdict
  gone-met e = rw e

  gone-unmet : t ≡ false → Accepted ≡ verdict (meets Missing t none)
  unfolding verdict
  gone-unmet e = rw e

-- which of two an answer is
kept : (t : Bool) (s : NoteSlice) {r : Result NoteSlice Refusal} {z : NoteSlice} → r ≡ cond t (Err Missing) (Ok s) → r ≡ Ok z → (t ≡ false) × (z ≡ s)
kept t s e is =
    true-or-false t
    (λ y. let z : ◌≡◌ {A = ℕ} 0 1 = cc in absurd (omega arith))
    (λ f. (f, cc))

lost : (t : Bool) (s : NoteSlice) {r : Result NoteSlice Refusal} {k : Refusal} → r ≡ cond t (Err Missing) (Ok s) → r ≡ Err k → (t ≡ true) × (k ≡ Missing)
lost t s e is =
    true-or-false t
    (λ y. (y, cc))
    (λ f. let z : ◌≡◌ {A = ℕ} 0 1 = cc in absurd (omega arith))

module _ (most : ℕ) (n : Note) (range : Range) (room : ℕ) where
  abbrev off : Refusal → Bool
  off = meets NotBoundary (not (valid_range n.original n.normalized range)) none

  abbrev gone : Refusal → Bool
  gone = meets Missing (slice_missing n range) none

  abbrev small : Refusal → Bool
  small = room_faults (slice_size (sliced n range)) room

  -- a verdict that is known gives the answer
  refusing : {k : Refusal} → Err k ≡ verdict (slice_faults most n range room) → SliceJudged most n range room (Err k)
  refusing e = record { answer = ap (λ (w : Verdict). unless_refused Err w (Ok (sliced n range))) e }

  module _ {v : Verdict} (noted : v ≡ verdict (note_faults most n)) where
    pub judged-note : {k : Refusal} → v ≡ Err k → SliceJudged most n range room (Err k)
    judged-note is = refusing (refused-then (up_to Misaligned) (note_faults most n) (also off (also gone small)) refl refl noted is)

    module _ (ok : v ≡ Accepted) where
      sound : Sound n
      sound = (accepted-sound most n (sym noted ∙ ok)).0

      short : Short most n
      short = accepted-short most n (accepted-sound most n (sym noted ∙ ok)).1

      past-note : {w : Verdict} → w ≡ verdict (also off (also gone small)) → w ≡ verdict (slice_faults most n range room)
      past-note e = accepted-then (up_to Misaligned) (note_faults most n) (also off (also gone small)) refl refl noted ok e

      module _ {t : Bool} (tested : t ≡ valid_range n.original n.normalized range) where
        pub judged-off : t ≡ false → SliceJudged most n range room (Err NotBoundary)
        judged-off u =
            refusing (past-note (refused-then (up_to NotBoundary) off (also gone small) refl refl {v = Err NotBoundary} (off-met (sym tested ∙ u)) refl))

        module _ (on : t ≡ true) where
          is-valid : valid_range n.original n.normalized range ≡ true
          is-valid = sym tested ∙ on

          past_off : {w : Verdict} → w ≡ verdict (also gone small) → w ≡ verdict (slice_faults most n range room)
          past_off e = past-note (accepted-then (up_to NotBoundary) off (also gone small) refl refl {v = Accepted} (off-unmet is-valid) refl e)

          pub shiftable : {o : Result Range Refusal} → o ≡ as_original n.starts n.ends range → Shiftable most o n.original_shift
          shiftable is = record { near = rw is (start-near n sound most range is-valid short.original_short short.normalized_short); low = short.shift_low }

          module _ {o m : Result Range Refusal} {s : Result NoteSlice Refusal} (p : o ≡ as_original n.starts n.ends range) (q : m ≡ as_normalized n.starts n.ends range) (is : s ≡ cond (unplaced o m (length n.normalized)) (Err Missing) (Ok (slice_of o m n.original_shift))) where
            placed : s ≡ cond (slice_missing n range) (Err Missing) (Ok (sliced n range))
            unfolding slice_missing sliced
            placed = is ∙ rw (p, q)

            pub judged-missing : {k : Refusal} → s ≡ Err k → SliceJudged most n range room (Err k)
            judged-missing e =
                let l = lost (slice_missing n range) (sliced n range) placed e in
                rw l.1 (refusing (past_off (refused-then (up_to Missing) gone small refl refl {v = Err Missing} (gone-met l.0) refl)))

            module _ {z : NoteSlice} (e : s ≡ Ok z) where
              is-sliced : z ≡ sliced n range
              is-sliced = (kept (slice_missing n range) (sliced n range) placed e).1

              past-gone : {w : Verdict} → w ≡ verdict small → w ≡ verdict (slice_faults most n range room)
              past-gone d = past_off (accepted-then (up_to Missing) gone small refl refl {v = Accepted} (gone-unmet (kept (slice_missing n range) (sliced n range) placed e).0) refl d)

              pub cut-forward : normalized_start_of z ≤ normalized_end_of z
              cut-forward = let k = cutting n sound range is-valid (kept (slice_missing n range) (sliced n range) placed e).0 in rw is-sliced (cut_on n range k)

              pub judged-small : room < slice_size z → SliceJudged most n range room (Err NoRoom)
              judged-small h = refusing (past-gone (no_room (rw is-sliced at h)))

              pub judged-cut : slice_size z ≤ room → SliceJudged most n range room (Ok z)
              judged-cut h = record { answer = ap Ok is-sliced ∙ ap (λ (w : Verdict). unless_refused Err w (Ok (sliced n range))) (past-gone (enough-room (rw is-sliced at h))) }

-- WHAT AN ACCEPTED CALL TELLS
module _ (most : ℕ) (n : Note) (range : Range) (room : ℕ) (e : verdict (slice_faults most n range room) ≡ Accepted) where
  pub accepted-note : Sound n × (fits most n ≡ true)
  accepted-note = accepted-sound most n (accepted-first (note_faults most n) (also (off most n range room) (also (gone most n range room) (small most n range room))) e)

  rest : verdict (also (gone most n range room) (small most n range room)) ≡ Accepted
  rest = accepted-second (off most n range room) _ (accepted-second (note_faults most n) (also (off most n range room) (also (gone most n range room) (small most n range room))) e)

  pub accepted-valid : valid_range n.original n.normalized range ≡ true
  accepted-valid = not-false (valid_range n.original n.normalized range) (accepted-meets (off most n range room) (accepted-first (off most n range room) (also (gone most n range room) (small most n range room)) (accepted-second (note_faults most n) _ e)) NotBoundary)

  pub accepted-cutting : Cutting n range
  accepted-cutting = cutting n accepted-note.0 range accepted-valid (accepted-meets (gone most n range room) (accepted-first (gone most n range room) (small most n range room) rest) Missing)

  pub accepted-room : slice_size (sliced n range) ≤ room
  accepted-room = room-enough (slice_size (sliced n range)) room (accepted-second (gone most n range room) (small most n range room) rest)

-- which of the two an answer is, by its verdict
cut-accepted : (v : Verdict) (s : NoteSlice) {r : Result NoteSlice Refusal} {z : NoteSlice} → r ≡ unless_refused Err v (Ok s) → r ≡ Ok z → (v ≡ Accepted) × (z ≡ s)
cut-accepted (Ok tt) s e is = (refl, cc)
cut-accepted (Err k) s e is = let z : ◌≡◌ {A = ℕ} 0 1 = cc in absurd (omega arith)

cut-refused : (v : Verdict) (s : NoteSlice) {r : Result NoteSlice Refusal} {k : Refusal} → r ≡ unless_refused Err v (Ok s) → r ≡ Err k → v ≡ Err k
cut-refused (Ok tt) s e is = let z : ◌≡◌ {A = ℕ} 0 1 = cc in absurd (omega arith)
cut-refused (Err j) s e is = cc

-- what the two writers ask for
pub record Ready (most : ℕ) (n : Note) (z : NoteSlice) (starts₀ ends₀ : List ℕ) : Type 0 where
  pub forward : normalized_start_of z ≤ normalized_end_of z
  pub in_starts : normalized_end_of z ≤ length n.starts
  pub in_ends : normalized_end_of z ≤ length n.ends
  pub low : original_start_of z ≤ most
  pub starts_lowerable : Lowerable (part n.starts (normalized_start_of z) (normalized_end_of z)) (original_start_of z) starts₀ 0
  pub ends_lowerable : Lowerable (part n.ends (normalized_start_of z) (normalized_end_of z)) (original_start_of z) ends₀ 0

-- THE CALL, by what was said
module _ (most : ℕ) (n : Note) (range : Range) (starts₀ ends₀ : List ℕ) {room : ℕ} {r : Result NoteSlice Refusal} (rooms : room ≡ min (length starts₀) (length ends₀)) (judged : SliceJudged most n range room r) where
  abbrev says : Verdict
  says = verdict (slice_faults most n range room)

  same-room : says ≡ verdict (slice_faults most n range (min (length starts₀) (length ends₀)))
  same-room = ap (λ (m : ℕ). verdict (slice_faults most n range m)) rooms

  pub refused : {k : Refusal} → r ≡ Err k → Slicing most n range starts₀ ends₀ (Err k) starts₀ ends₀
  refused {k} is =
      record { says = Err k; says_is = sym (cut-refused says (sliced n range) judged.answer is) ∙ same-room; answer = refl; starts_are = refl; ends_are = refl }

  module _ {z : NoteSlice} (is : r ≡ Ok z) where
    accepted : says ≡ Accepted
    accepted = (cut-accepted says (sliced n range) judged.answer is).0

    z-is : z ≡ sliced n range
    z-is = (cut-accepted says (sliced n range) judged.answer is).1

    cut : Cutting n range
    cut = accepted-cutting most n range room accepted

    z-at : z ≡ slice_of (Ok (in_original cut.a cut.b)) (Ok (in_normalized cut.c cut.d)) n.original_shift
    z-at = z-is ∙ sliced-is n range cut

    size_fits : cut.d - cut.c ≤ min (length starts₀) (length ends₀)
    unfolding slice_of
    size_fits = rw (← rooms) (rw (sliced-is n range cut) at (accepted-room most n range room accepted))

    pub ready : Ready most n z starts₀ ends₀
    unfolding slice_of
    ready =
        let sound : Sound n = (accepted-note most n range room accepted).0 in
        let short : Short most n = accepted-short most n (accepted-note most n range room accepted).1 in
        let k : Cutting n range = cut in
        let in_starts : k.d ≤ length n.starts = omega (arith, k.inside, length-starts n sound) in
        let in_ends : k.d ≤ length n.ends = omega (arith, k.inside, length-ends n sound) in
        rw z-at
        (record {
          forward = k.forward;
          in_starts = in_starts;
          in_ends = in_ends;
          low = ⊎_elim (λ h. omega (arith, h, short.original_short)) (λ h. omega (arith, h, short.normalized_short)) k.near;
          starts_lowerable = record {
            room = omega (arith, length_part n.starts k.c k.d in_starts, size_fits);
            above = λ i h.
                let below : i < k.d - k.c = omega (arith, length_part n.starts k.c k.d in_starts) in
                rw (part-index n.starts k.c k.d i below) (k.above (k.c + i) (omega arith) (omega arith));
          };
          ends_lowerable = record {
            room = omega (arith, length_part n.ends k.c k.d in_ends, size_fits);
            above = λ i h.
                let below : i < k.d - k.c = omega (arith, length_part n.ends k.c k.d in_ends) in
                rw (part-index n.ends k.c k.d i below)
                (omega (arith, k.above (k.c + i) (omega arith) (omega arith), (inside-at n sound (k.c + i) (omega (arith, k.inside))).0));
          };
        })

    pub written : {starts ends : List ℕ}
        → starts ≡ splice starts₀ 0 (lowered (original_start_of z) (part n.starts (normalized_start_of z) (normalized_end_of z)))
        → ends ≡ splice ends₀ 0 (lowered (original_start_of z) (part n.ends (normalized_start_of z) (normalized_end_of z)))
        → Slicing most n range starts₀ ends₀ (Ok z) starts ends
    unfolding sliced_column
    written p q =
        record {
          says = Accepted;
          says_is = sym accepted ∙ same-room;
          answer = ap Ok z-is;
          starts_are = p ∙ rw z-is (splice-overlay starts₀ (sliced_column (sliced n range) n.starts));
          ends_are = q ∙ rw z-is (splice-overlay ends₀ (sliced_column (sliced n range) n.ends));
        }
