-- Laws of `Sound`: what a sound note says of its texts and of the alignment at each byte; and sound alignments, from what holds at each byte.
use Prim.Native.Nat.{ℕ, zero, suc, ◌+◌, ◌≤◌, ◌<◌}
use mathlib.Core.Path.{◌≡◌, refl}
use mathlib.Core.Bool.{Bool, true, ◌&&◌}
use mathlib.Mathlib.Data.Bool.Basic.{and_intro, and_elim_left, and_elim_right}
use native.Mathlib.Omega.{arith}
use lib.Dec.{leb, eqb}
use lib.ListN.{length, get_or}
use borrow.Author.Tests.{leb-true, eqb-true, le-leb, eq-eqb}
use Rattle.buffers.specs.Every.{every_below}
use Rattle.buffers.proofs.Cases.{true-or-false}
use Rattle.buffers.proofs.Every.{every-at, every-all}
use Rattle.utf8.specs.Formed.{well_formed, continues, boundary}
use Rattle.note.specs.Notes.{Note, paired, texts_formed, start_at, end_at, inside, on_boundaries, shared, forward, aligned, Sound}

module _ (n : Note) (sound : Sound n) where
  pub length-starts : length n.starts ≡ length n.normalized
  unfolding paired
  length-starts = eqb-true _ _ (and_elim_left _ (eqb (length n.ends) (length n.normalized)) sound.has_pairs)

  pub length-ends : length n.ends ≡ length n.normalized
  unfolding paired
  length-ends = eqb-true _ _ (and_elim_right (eqb (length n.starts) (length n.normalized)) _ sound.has_pairs)

  pub original_formed : well_formed n.original ≡ true
  unfolding texts_formed
  original_formed = and_elim_left _ (well_formed n.normalized) sound.has_texts

  pub normalized-formed : well_formed n.normalized ≡ true
  unfolding texts_formed
  normalized-formed = and_elim_right (well_formed n.original) _ sound.has_texts

  abbrev all : (ℕ → Bool) → Bool
  all f = every_below (length n.normalized) f

  first_two : (all (inside n) && all (on_boundaries n)) ≡ true
  unfolding aligned
  first_two = and_elim_left _ (all (shared n)) (and_elim_left _ (all (forward n)) sound.has_alignments)

  pub inside-at : (i : ℕ) → i < length n.normalized → (start_at n i ≤ end_at n i) × (end_at n i ≤ length n.original)
  unfolding inside
  inside-at i h =
      let t : inside n i ≡ true = every-at _ (inside n) (and_elim_left _ (all (on_boundaries n)) first_two) i h in
      (leb-true _ _ (and_elim_left _ (leb (end_at n i) (length n.original)) t), leb-true _ _ (and_elim_right (leb (start_at n i) (end_at n i)) _ t))

  pub boundaries-at : (i : ℕ) → i < length n.normalized → (boundary n.original (start_at n i) ≡ true) × (boundary n.original (end_at n i) ≡ true)
  unfolding on_boundaries
  boundaries-at i h =
      let t : on_boundaries n i ≡ true = every-at _ (on_boundaries n) (and_elim_right (all (inside n)) _ first_two) i h in
      (and_elim_left _ (boundary n.original (end_at n i)) t, and_elim_right (boundary n.original (start_at n i)) _ t)

  pub shared_at : (i : ℕ) → suc i < length n.normalized → continues (get_or n.normalized (suc i) 0) ≡ true → (start_at n i ≡ start_at n (suc i)) × (end_at n i ≡ end_at n (suc i))
  unfolding aligned shared
  shared_at i h more =
      let t : shared n (suc i) ≡ true = every-at _ (shared n) (and_elim_right (all (inside n) && all (on_boundaries n)) _ (and_elim_left _ (all (forward n)) sound.has_alignments)) (suc i) h in
      let both : (eqb (start_at n i) (start_at n (suc i)) && eqb (end_at n i) (end_at n (suc i))) ≡ true = rw more at t in
      (eqb-true _ _ (and_elim_left _ (eqb (end_at n i) (end_at n (suc i))) both), eqb-true _ _ (and_elim_right (eqb (start_at n i) (start_at n (suc i))) _ both))

  pub forward-at : (i : ℕ) → suc i < length n.normalized → (start_at n i ≤ start_at n (suc i)) × (end_at n i ≤ end_at n (suc i))
  unfolding aligned forward
  forward-at i h =
      let t : forward n (suc i) ≡ true = every-at _ (forward n) (and_elim_right (all (inside n) && all (on_boundaries n) && all (shared n)) _ sound.has_alignments) (suc i) h in
      (leb-true _ _ (and_elim_left _ (leb (end_at n i) (end_at n (suc i))) t), leb-true _ _ (and_elim_right (leb (start_at n i) (start_at n (suc i))) _ t))

  -- over any stretch
  pub starts_forward : (i k : ℕ) → i + k < length n.normalized → start_at n i ≤ start_at n (i + k)
  starts_forward i zero h = let here : i + 0 ≡ i = omega arith in rw here (omega arith)
  starts_forward i (suc k) h =
      let next : i + suc k ≡ suc (i + k) = omega arith in
      rw next (omega (arith, starts_forward i k (omega arith), (forward-at (i + k) (omega arith)).0))

-- what holds of the alignment at each byte
pub record AlignedAt (n : Note) : Type 0 where
  pub in_order : (i : ℕ) → i < length n.normalized → start_at n i ≤ end_at n i
  pub most : (i : ℕ) → i < length n.normalized → end_at n i ≤ length n.original
  pub start_stands : (i : ℕ) → i < length n.normalized → boundary n.original (start_at n i) ≡ true
  pub end_stands : (i : ℕ) → i < length n.normalized → boundary n.original (end_at n i) ≡ true
  pub shares : (i : ℕ) → suc i < length n.normalized → continues (get_or n.normalized (suc i) 0) ≡ true → (start_at n i ≡ start_at n (suc i)) × (end_at n i ≡ end_at n (suc i))
  pub starts_on : (i : ℕ) → suc i < length n.normalized → start_at n i ≤ start_at n (suc i)
  pub ends_on : (i : ℕ) → suc i < length n.normalized → end_at n i ≤ end_at n (suc i)

module _ (n : Note) (a : AlignedAt n) where
  shared-so : (i : ℕ) → i < length n.normalized → shared n i ≡ true
  unfolding shared
  shared-so zero h = refl
  shared-so (suc i) h =
      true-or-false (continues (get_or n.normalized (suc i) 0))
      (λ t. rw (t, eq-eqb _ _ (a.shares i h t).0, eq-eqb _ _ (a.shares i h t).1))
      (λ f. rw f)

  forward-so : (i : ℕ) → i < length n.normalized → forward n i ≡ true
  unfolding forward
  forward-so zero h = refl
  forward-so (suc i) h = and_intro (le-leb _ _ (a.starts_on i h)) (le-leb _ _ (a.ends_on i h))

  pub aligned-from : aligned n ≡ true
  unfolding aligned inside on_boundaries
  aligned-from =
      and_intro (and_intro (and_intro
      (every-all _ (inside n) (λ i h. and_intro (le-leb _ _ (a.in_order i h)) (le-leb _ _ (a.most i h))))
      (every-all _ (on_boundaries n) (λ i h. and_intro (a.start_stands i h) (a.end_stands i h))))
      (every-all _ (shared n) shared-so))
      (every-all _ (forward n) forward-so)
