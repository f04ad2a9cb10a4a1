-- Laws of `starting`: each byte's alignment is the range of its character, which holds the byte, ends on boundaries, and is the next byte's
-- range or ends before it. So the note is sound, and accepted where the text is.
use Prim.Native.Nat.{ℕ, zero, suc, ◌+◌, ◌≤◌, ◌<◌}
use mathlib.Core.Path.{◌≡◌, refl, sym}
use mathlib.Core.Bool.{true}
use mathlib.Core.List.{List}
use mathlib.Mathlib.Data.Bool.Basic.{and_intro}
use native.Mathlib.Omega.{arith}
use lib.ListN.{length, get_or}
use borrow.Author.Tests.{le-leb, eq-eqb}
use Rattle.buffers.proofs.Cases.{true-or-false}
use Rattle.buffers.proofs.Every.{every-all}
use Rattle.buffers.proofs.Columns.{length-column, getD-column}
use Rattle.utf8.specs.Formed.{well_formed, continues}
use Rattle.note.specs.Refusals.{verdict}
use Rattle.note.specs.Notes.{fits, paired, texts_formed, start_at, end_at, inside, on_boundaries, shared, forward, aligned}
use Rattle.utf8.specs.CharRanges.{char_start, char_end}
use Rattle.utf8.proofs.CharRanges.{char_start-begins, char_start-continues, char_end-continues, Ranged, ranged, char_end-begins}
use Rattle.note.specs.Starting.{starting, StartingSound, StartingAccepted}

-- the two columns, number by number
pub starting-start : (s : List ℕ) (i : ℕ) → i < length s → start_at (starting s) i ≡ char_start s i
unfolding starting
starting-start s i h = getD-column (length s) (char_start s) i h

pub starting-end : (s : List ℕ) (i : ℕ) → i < length s → end_at (starting s) i ≡ char_end s i
unfolding starting
starting-end s i h = getD-column (length s) (char_end s) i h

-- a number for each byte
pub length-starting-starts : (s : List ℕ) → length (starting s).starts ≡ length s
unfolding starting
length-starting-starts s = length-column (length s) (char_start s)

pub length-starting-ends : (s : List ℕ) → length (starting s).ends ≡ length s
unfolding starting
length-starting-ends s = length-column (length s) (char_end s)

-- each of the four things that soundness asks of an alignment
module _ (s : List ℕ) (p : well_formed s ≡ true) where
  starting-inside : (i : ℕ) → i < length s → inside (starting s) i ≡ true
  unfolding starting inside
  starting-inside i h =
      let r : Ranged s i = ranged s i p h in
      rw (starting-start s i h, starting-end s i h)
      (and_intro (le-leb (char_start s i) (char_end s i) (omega arith)) (le-leb _ _ r.most))

  starting-boundaries : (i : ℕ) → i < length s → on_boundaries (starting s) i ≡ true
  unfolding starting on_boundaries
  starting-boundaries i h =
      let r : Ranged s i = ranged s i p h in
      rw (starting-start s i h, starting-end s i h) (and_intro r.begins r.ends)

  starting-shared : (i : ℕ) → i < length s → shared (starting s) i ≡ true
  unfolding starting shared
  starting-shared zero h = refl
  starting-shared (suc i) h =
      rw (starting-start s i (omega arith), starting-start s (suc i) h, starting-end s i (omega arith), starting-end s (suc i) h)
      (true-or-false (continues (get_or s (suc i) 0))
      (λ more. rw more (and_intro (eq-eqb _ _ (sym (char_start-continues s i more))) (eq-eqb _ _ (sym (char_end-continues s i more)))))
      (λ new. rw new))

  starting-forward : (i : ℕ) → i < length s → forward (starting s) i ≡ true
  unfolding starting forward
  starting-forward zero h = refl
  starting-forward (suc i) h =
      let r : Ranged s i = ranged s i p (omega arith) in
      let q : Ranged s (suc i) = ranged s (suc i) p h in
      let ahead : (char_start s i ≤ char_start s (suc i)) × (char_end s i ≤ char_end s (suc i)) =
      true-or-false (continues (get_or s (suc i) 0))
      (λ more. (omega (arith, char_start-continues s i more), omega (arith, char_end-continues s i more)))
      (λ new. (omega (arith, char_start-begins s (suc i) new), omega (arith, char_end-begins s i r new))) in
      rw (starting-start s i (omega arith), starting-start s (suc i) h, starting-end s i (omega arith), starting-end s (suc i) h)
      (and_intro (le-leb _ _ ahead.0) (le-leb _ _ ahead.1))

  starting-aligned : aligned (starting s) ≡ true
  unfolding starting aligned
  starting-aligned =
      and_intro
      (and_intro
      (and_intro (every-all _ _ starting-inside) (every-all _ _ starting-boundaries))
      (every-all _ _ starting-shared))
      (every-all _ _ starting-forward)

  starting-paired : paired (starting s) ≡ true
  unfolding starting paired
  starting-paired = and_intro (eq-eqb _ _ (length-starting-starts s)) (eq-eqb _ _ (length-starting-ends s))

  starting-formed : texts_formed (starting s) ≡ true
  unfolding starting texts_formed
  starting-formed = and_intro p p

pub starting-sound : StartingSound
starting-sound s p =
    record { has_pairs = starting-paired s p; has_texts = starting-formed s p; has_alignments = starting-aligned s p }

starting-fits : (most : ℕ) (s : List ℕ) → length s ≤ most → fits most (starting s) ≡ true
unfolding starting fits
starting-fits most s h = rw (le-leb (length s) most h, le-leb (0 + length s) most (omega arith))

pub starting-accepted : StartingAccepted
unfolding verdict
starting-accepted most s p h =
    simp (starting-fits most s h, starting-paired s p, starting-formed s p, starting-aligned s p)
