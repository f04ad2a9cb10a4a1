-- Laws of `charOffsets` and `CharOffsetsList`: the answers of a list as they are written, and both calls by the checks that they have passed.
use Prim.Native.Nat.{ℕ, ◌+◌, ◌≤◌, ◌<◌}
use mathlib.Core.Path.{◌≡◌, ◌∙◌, ap, refl, sym}
use mathlib.Core.Bool.{Bool, cond, not}
use mathlib.Core.List.{List}
use borrow.Author.Tests.{lt-ltb, le-ltb}
use native.Mathlib.Omega.{arith}
use lib.Dec.{eqb}
use lib.ListN.{length, get_or, set}
use Rattle.std.specs.Prelude.{Result, Err}
use Rattle.buffers.proofs.Columns.{Filling, one-filling, all-filling}
use Rattle.note.specs.declared.Refusal.{Refusal}
use Rattle.note.specs.declared.Refusal.TheVariants.{LengthMismatch, NoRoom, Missing, IllFormed}
use Rattle.note.specs.Refusals.{none, meets, also, verdict, unless_refused, least, Verdict, Accepted}
use Rattle.note.specs.Rank.{earlier}
use Rattle.note.specs.Faults.{text_faults, room_faults, length_faults}
use Rattle.note.specs.Rank.{up_to}
use Rattle.note.proofs.FirstMet.{refused-then, accepted-then}
use Rattle.note.proofs.LengthFaults.{beside-list}
use Rattle.note.proofs.Faults.{no_room, enough-room}
use Rattle.char_offsets.specs.declared.Pair.{Pair}
use Rattle.char_offsets.specs.Positions.{index_of, is_mapped, char_pair, end_index, pair_of, char_offsets, pair_number, pair_start, pair_end, pair_at, CharOffsetsList}
use Rattle.char_offsets.specs.Steps.{IndexKnown, PairTold, PairRoom, PairsWritten}
use Rattle.note.specs.declared.CharIndex.{CharIndex}

-- nothing is read yet
pub known-none : {most : ℕ} {s : List ℕ} → length s ≤ most → IndexKnown most s 0 0
unfolding index_of
known-none h = record { short = h; inside = omega arith; so_far = refl }

-- one pair
missing-verdict : (s : List ℕ) (a : ℕ) → verdict (meets Missing (not (is_mapped s a)) none) ≡ cond (not (is_mapped s a)) (Err Missing) Accepted
unfolding verdict
missing-verdict s a = refl

module _ (most : ℕ) (s : List ℕ) (a e : ℕ) {v : Verdict} (is : v ≡ verdict (text_faults most s)) where
  abbrev starts-there : Refusal → Bool
  starts-there = meets Missing (not (is_mapped s a)) none

  abbrev answer : Verdict → Result (CharIndex × CharIndex) Refusal
  answer w = unless_refused Err w (pair_of s a e)

  pub pair-refused : {k : Refusal} → v ≡ Err k → Err k ≡ char_offsets most s a e
  unfolding char_offsets
  pair-refused no_text = ap answer (refused-then (up_to IllFormed) (text_faults most s) starts-there refl refl is no_text)

  module _ (ok : v ≡ Accepted) where
    pub pair-missing : length s ≤ a → Err Missing ≡ char_offsets most s a e
    unfolding char_offsets
    pair-missing past =
        let off : Err Missing ≡ verdict starts-there = sym (missing-verdict s a ∙ rw (le-ltb a (length s) past)) in
        ap answer (accepted-then (up_to IllFormed) (text_faults most s) starts-there refl refl is ok off)

    pub pair-chars : {r : Pair} → a < length s → PairTold s a e r → char_pair r.start r.end ≡ char_offsets most s a e
    unfolding char_offsets pair_of
    pair-chars {r} below t =
        let start : r.start ≡ index_of s a = rw (lt-ltb a (length s) below) at t.start_is in
        let end : r.end ≡ end_index s a e = rw (lt-ltb a (length s) below) at t.end_is in
        let pair : char_pair r.start r.end ≡ pair_of s a e = rw (lt-ltb a (length s) below, start, end) in
        let on : Accepted ≡ verdict starts-there = sym (missing-verdict s a ∙ rw (lt-ltb a (length s) below)) in
        pair ∙ ap answer (accepted-then (up_to IllFormed) (text_faults most s) starts-there refl refl is ok on)

-- the first i answers are written
abbrev pub PairsWriting : List ℕ → List ℕ → List ℕ → List ℕ → List ℕ → List ℕ → List ℕ → List ℕ → List ℕ → ℕ → Type 0
PairsWriting s starts ends n₀ a₀ e₀ n a e i =
    Filling (λ k. pair_number (pair_at s starts ends k)) (λ k. pair_start (pair_at s starts ends k)) (λ k. pair_end (pair_at s starts ends k)) (length starts) n₀ a₀ e₀ n a e i

module _ {s starts ends n₀ a₀ e₀ : List ℕ} (room : PairRoom starts ends n₀ a₀ e₀) {n a e : List ℕ} {i : ℕ} (w : PairsWriting s starts ends n₀ a₀ e₀ n a e i) where
  pub writing_more : {r : Pair} → i < length starts → PairTold s (get_or starts i 0) (get_or ends i 0) r → PairsWriting s starts ends n₀ a₀ e₀ (set n i r.number) (set a i r.start) (set e i r.end) (i + 1)
  writing_more below t =
      one-filling w below room.numbers_fit room.starts_fit room.ends_fit t.number_is t.start_is t.end_is

  pub writing-all : length starts ≤ i → PairsWritten s starts ends n₀ a₀ e₀ n a e
  writing-all past =
      let three = all-filling w past room.numbers_fit room.starts_fit room.ends_fit in
      record { numbers_are = three.0; starts_are = three.1; ends_are = three.2 }

-- a list of pairs
abbrev inputs : ℕ → List ℕ → List ℕ → List ℕ → Refusal → Bool
inputs most s starts ends = also (text_faults most s) (length_faults starts ends)

module _ (most : ℕ) (s starts ends n₀ a₀ e₀ : List ℕ) {v w u : Verdict} (p : v ≡ verdict (text_faults most s)) (q : w ≡ cond (not (eqb (length starts) (length ends))) (Err LengthMismatch) Accepted) (both : u ≡ earlier v w) where
  abbrev room : ℕ
  room = least (length n₀) (length a₀) (length e₀)

  abbrev rooms : Refusal → Bool
  rooms = room_faults (length starts) room

  pub list-refused : {k : Refusal} → u ≡ Err k → CharOffsetsList most s starts ends n₀ a₀ e₀ (Err k) n₀ a₀ e₀
  list-refused is =
      record {
        answer = refused-then (up_to IllFormed) (inputs most s starts ends) rooms refl refl (beside-list (text_faults most s) starts ends p q both) is;
        numbers_are = refl;
        starts_are = refl;
        ends_are = refl;
      }

  module _ (ok : u ≡ Accepted) where
    pub too-little-room : room < length starts → CharOffsetsList most s starts ends n₀ a₀ e₀ (Err NoRoom) n₀ a₀ e₀
    too-little-room h =
        record {
          answer = accepted-then (up_to IllFormed) (inputs most s starts ends) rooms refl refl (beside-list (text_faults most s) starts ends p q both) ok (no_room h);
          numbers_are = refl;
          starts_are = refl;
          ends_are = refl;
        }

    pub list_written : {n a e : List ℕ} → length starts ≤ room → PairsWritten s starts ends n₀ a₀ e₀ n a e → CharOffsetsList most s starts ends n₀ a₀ e₀ Accepted n a e
    list_written h written =
        record {
          answer = accepted-then (up_to IllFormed) (inputs most s starts ends) rooms refl refl (beside-list (text_faults most s) starts ends p q both) ok (enough-room h);
          numbers_are = written.numbers_are;
          starts_are = written.starts_are;
          ends_are = written.ends_are;
        }
