-- The bytes of one character of a sound note carry one alignment.
use Prim.Native.Nat.{ℕ, zero, suc, ◌+◌, ◌-◌, ◌<◌}
use mathlib.Core.Path.{◌≡◌, ◌∙◌, refl, sym}
use mathlib.Core.Bool.{true}
use mathlib.Core.List.{List}
use native.Mathlib.Omega.{arith}
use lib.ListN.{length, get_or, replicate, length-replicate, get_or-replicate}
use lib.Seq.{ext_get_or}
use Rattle.buffers.specs.Splice.{part}
use Rattle.buffers.proofs.Splice.{length_part, part-index}
use Rattle.utf8.specs.Formed.{announced, boundary}
use Rattle.utf8.proofs.Boundaries.{CharAt, char-at}
use Rattle.note.specs.Notes.{Note, start_at, end_at, before_end, Sound}
use Rattle.note.proofs.BeforeEnd.{before-some}
use Rattle.note.proofs.Sound.{length-starts, length-ends, normalized-formed, shared_at}

module _ (n : Note) (sound : Sound n) (p : ℕ) (e : boundary n.normalized p ≡ true) (h : p < length n.normalized) where
  here : CharAt n.normalized p (announced (get_or n.normalized p 0))
  here = char-at n.normalized p (normalized-formed n sound) e h

  shares : (i : ℕ) → i < announced (get_or n.normalized p 0) → (start_at n (p + i) ≡ start_at n p) × (end_at n (p + i) ≡ end_at n p)
  shares zero k = let z : p + 0 ≡ p = omega arith in rw z (refl, refl)
  shares (suc i) k =
      let z : p + suc i ≡ suc (p + i) = omega arith in
      let so_far = shares i (omega arith) in
      let one = shared_at n sound (p + i) (omega (arith, here.inside)) (here.rest (suc (p + i)) (omega arith) (omega arith)) in
      rw z (sym one.0 ∙ so_far.0, sym one.1 ∙ so_far.1)

  one_value : (xs : List ℕ) → length xs ≡ length n.normalized → ((i : ℕ) → i < announced (get_or n.normalized p 0) → get_or xs (p + i) 0 ≡ get_or xs p 0) → replicate (announced (get_or n.normalized p 0)) (get_or xs p 0) ≡ part xs p (p + announced (get_or n.normalized p 0))
  one_value xs long same =
      let w : ℕ = announced (get_or n.normalized p 0) in
      let wide : length (part xs p (p + w)) ≡ p + w - p = length_part xs p (p + w) (omega (arith, here.inside)) in
      ext_get_or 0 (replicate w (get_or xs p 0)) (part xs p (p + w))
      (length-replicate w (get_or xs p 0) ∙ omega (arith, wide))
      (λ i k.
      let below : i < w = rw (length-replicate w (get_or xs p 0)) at k in
      get_or-replicate w i (get_or xs p 0) 0 below ∙ sym (part-index xs p (p + w) i (omega arith) ∙ same i below))

  pub starts-part : replicate (announced (get_or n.normalized p 0)) (start_at n p) ≡ part n.starts p (p + announced (get_or n.normalized p 0))
  starts-part = one_value n.starts (length-starts n sound) (λ i k. (shares i k).0)

  pub ends-part : replicate (announced (get_or n.normalized p 0)) (end_at n p) ≡ part n.ends p (p + announced (get_or n.normalized p 0))
  ends-part = one_value n.ends (length-ends n sound) (λ i k. (shares i k).1)

  -- so the last of them carries what the first does
  pub last-shares : (before_end n.starts (p + announced (get_or n.normalized p 0)) ≡ start_at n p) × (before_end n.ends (p + announced (get_or n.normalized p 0)) ≡ end_at n p)
  last-shares =
      let w : ℕ = announced (get_or n.normalized p 0) in
      let z : p + w - 1 ≡ p + (w - 1) = omega (arith, here.positive) in
      let same = shares (w - 1) (omega (arith, here.positive)) in
      (before-some n.starts (p + w) (omega (arith, here.positive)) ∙ rw z same.0, before-some n.ends (p + w) (omega (arith, here.positive)) ∙ rw z same.1)
