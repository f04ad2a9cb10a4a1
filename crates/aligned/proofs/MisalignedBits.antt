-- Laws of `misalignedBits` and `noneMisaligned`: no bit is set, and the last end is inside, exactly where the alignments
-- are monotone.
use Prim.Native.Nat.{ℕ, zero, suc, ◌+◌, ◌-◌, ◌≤◌, ◌<◌}
use mathlib.Core.Path.{◌≡◌, ◌∙◌, ap, sym}
use mathlib.Core.Bool.{Bool, true, cond, ◌&&◌, ◌||◌, not}
use mathlib.Core.List.{List}
use mathlib.Mathlib.Data.Bool.Basic.{and_intro, and_elim_left, and_elim_right}
use borrow.Author.Tests.{le-leb, leb-true, eq-eqb, eqb-true}
use native.Mathlib.Omega.{arith}
use lib.Dec.{leb, eqb}
use lib.Bits.{bit_or}
use lib.ListN.{get_or}
use Rattle.buffers.specs.Every.{every_below}
use Rattle.buffers.proofs.Cases.{true-or-false}
use Rattle.buffers.proofs.Every.{every-suc, every-at, every-all}
use Rattle.utf8.specs.Formed.{continues}
use Rattle.boundaries.specs.Monotone.{follows, monotone_at, monotone}
use Rattle.boundaries.proofs.Monotone.{bool-ext}
use Rattle.boundaries.proofs.Zeros.{or-none, less_none, when-none}
use Rattle.aligned.specs.MisalignedBits.{misaligned_bits, misaligned_at, none_misaligned}

-- what follows
pub record Following (b s0 e0 s1 e1 : ℕ) : Type 0 where
  pub ordered : s1 ≤ e1
  pub starts : s0 ≤ s1
  pub ends : e0 ≤ e1
  pub shared : continues b ≡ true → (s0 ≡ s1) × (e0 ≡ e1)

module _ (b s0 e0 s1 e1 : ℕ) where
  misaligned_bits-none : eqb (misaligned_bits b s0 e0 s1 e1) 0 ≡ (leb s1 e1 && leb s0 s1 && leb e0 e1 && (not (continues b) || (leb s1 s0 && leb e1 e0)))
  unfolding misaligned_bits
  misaligned_bits-none =
      rw (
        or-none (bit_or (bit_or (s1 - e1) (s0 - s1)) (e0 - e1)) (cond (continues b) (bit_or (s1 - s0) (e1 - e0)) 0),
        or-none (bit_or (s1 - e1) (s0 - s1)) (e0 - e1),
        or-none (s1 - e1) (s0 - s1),
        when-none (continues b) (bit_or (s1 - s0) (e1 - e0)),
        or-none (s1 - s0) (e1 - e0),
        less_none s1 e1,
        less_none s0 s1,
        less_none e0 e1,
        less_none s1 s0,
        less_none e1 e0,
      )

  none-following : eqb (misaligned_bits b s0 e0 s1 e1) 0 ≡ true → Following b s0 e0 s1 e1
  none-following t =
      let all = sym misaligned_bits-none ∙ t in
      let three = and_elim_left (leb s1 e1 && leb s0 s1 && leb e0 e1) _ all in
      let two = and_elim_left (leb s1 e1 && leb s0 s1) _ three in
      let low : s0 ≤ s1 = leb-true _ _ (and_elim_right (leb s1 e1) (leb s0 s1) two) in
      let high : e0 ≤ e1 = leb-true _ _ (and_elim_right (leb s1 e1 && leb s0 s1) (leb e0 e1) three) in
      record {
        ordered = leb-true _ _ (and_elim_left (leb s1 e1) (leb s0 s1) two);
        starts = low;
        ends = high;
        shared = λ more.
            let both = rw more at (and_elim_right (leb s1 e1 && leb s0 s1 && leb e0 e1) _ all) in
            (omega (arith, low, leb-true s1 s0 (and_elim_left (leb s1 s0) (leb e1 e0) both)), omega (arith, high, leb-true e1 e0 (and_elim_right (leb s1 s0) (leb e1 e0) both)));
      }

  following-none : Following b s0 e0 s1 e1 → eqb (misaligned_bits b s0 e0 s1 e1) 0 ≡ true
  following-none f =
      misaligned_bits-none
      ∙ and_intro (and_intro (and_intro (le-leb _ _ f.ordered) (le-leb _ _ f.starts)) (le-leb _ _ f.ends))
      (true-or-false (continues b)
      (λ more. let same = f.shared more in rw more (and_intro (le-leb s1 s0 (omega (arith, same.0))) (le-leb e1 e0 (omega (arith, same.1)))))
      (λ new. rw new))

  module _ (size : ℕ) where
    following-follows : Following b s0 e0 s1 e1 → e1 ≤ size → follows b s0 e0 s1 e1 size ≡ true
    unfolding follows
    following-follows f inside =
        and_intro
        (and_intro
        (and_intro (and_intro (le-leb _ _ f.ordered) (le-leb _ _ inside))
        (true-or-false (continues b)
        (λ more. rw more (and_intro (eq-eqb _ _ (f.shared more).0) (eq-eqb _ _ (f.shared more).1)))
        (λ new. rw new)))
        (le-leb _ _ f.starts))
        (le-leb _ _ f.ends)

    follows-following : follows b s0 e0 s1 e1 size ≡ true → Following b s0 e0 s1 e1 × (e1 ≤ size)
    unfolding follows
    follows-following t =
        let same = not (continues b) || (eqb s0 s1 && eqb e0 e1) in
        let front = leb s1 e1 && leb e1 size in
        let four = and_elim_left (front && same && leb s0 s1) (leb e0 e1) t in
        let three = and_elim_left (front && same) (leb s0 s1) four in
        let two = and_elim_left front same three in (
          record {
            ordered = leb-true _ _ (and_elim_left (leb s1 e1) (leb e1 size) two);
            starts = leb-true _ _ (and_elim_right (front && same) (leb s0 s1) four);
            ends = leb-true _ _ (and_elim_right (front && same && leb s0 s1) (leb e0 e1) t);
            shared = λ more.
                let both = rw more at (and_elim_right front same three) in
                (eqb-true _ _ (and_elim_left (eqb s0 s1) (eqb e0 e1) both), eqb-true _ _ (and_elim_right (eqb s0 s1) (eqb e0 e1) both));
          },
          leb-true _ _ (and_elim_right (leb s1 e1) (leb e1 size) two),
        )

-- the columns
module _ (text starts ends : List ℕ) where
  pub first-none : {x : ℕ} → x ≡ get_or starts 0 0 - get_or ends 0 0 → eqb x 0 ≡ none_misaligned text starts ends 1
  unfolding none_misaligned every_below misaligned_at
  first-none is = rw is

  pub next-none : (i found : ℕ) {x : ℕ} → 1 ≤ i → eqb found 0 ≡ none_misaligned text starts ends i → x ≡ misaligned_bits (get_or text i 0) (get_or starts (i - 1) 0) (get_or ends (i - 1) 0) (get_or starts i 0) (get_or ends i 0) → eqb (bit_or found x) 0 ≡ none_misaligned text starts ends (i + 1)
  unfolding none_misaligned misaligned_at
  next-none zero found low p q = absurd (omega arith)
  next-none (suc i) found {x} low p q =
      let one : suc i - 1 ≡ i = omega arith in
      rw (every-suc (suc i) (λ k. eqb (misaligned_at text starts ends k) 0), or-none found x, p, q, one)

  module _ (size n : ℕ) where
    none-at : none_misaligned text starts ends n ≡ true → (i : ℕ) → suc i < n → Following (get_or text (suc i) 0) (get_or starts i 0) (get_or ends i 0) (get_or starts (suc i) 0) (get_or ends (suc i) 0)
    unfolding none_misaligned misaligned_at
    none-at t i h = none-following _ _ _ _ _ (every-at n (λ k. eqb (misaligned_at text starts ends k) 0) t (suc i) h)

    ends-rise : none_misaligned text starts ends n ≡ true → (i d : ℕ) → i + d < n → get_or ends i 0 ≤ get_or ends (i + d) 0
    ends-rise t i zero h = let z : i + 0 ≡ i = omega arith in rw z (omega arith)
    ends-rise t i (suc d) h =
        let next : i + suc d ≡ suc (i + d) = omega arith in
        rw next (omega (arith, ends-rise t i d (omega arith), (none-at t (i + d) (omega arith)).ends))

    end-most : none_misaligned text starts ends n ≡ true → (i : ℕ) → i < n → get_or ends i 0 ≤ get_or ends (n - 1) 0
    end-most t i h = let top : i + (n - 1 - i) ≡ n - 1 = omega arith in rw top at (ends-rise t i (n - 1 - i) (omega arith))

    none-monotone : none_misaligned text starts ends n ≡ true → get_or ends (n - 1) 0 ≤ size → (i : ℕ) → i < n → monotone_at text starts ends size i ≡ true
    unfolding monotone_at none_misaligned misaligned_at
    none-monotone t last zero h =
        and_intro
        (sym (less_none (get_or starts 0 0) (get_or ends 0 0)) ∙ every-at n (λ k. eqb (misaligned_at text starts ends k) 0) t 0 h)
        (le-leb (get_or ends 0 0) size (omega (arith, end-most t 0 h)))
    none-monotone t last (suc i) h =
        following-follows _ _ _ _ _ size (none-at t i h) (omega (arith, end-most t (suc i) h))

    monotone-none : monotone text starts ends size n ≡ true → (i : ℕ) → i < n → eqb (misaligned_at text starts ends i) 0 ≡ true
    unfolding monotone monotone_at misaligned_at
    monotone-none t zero h =
        less_none (get_or starts 0 0) (get_or ends 0 0) ∙ and_elim_left (leb (get_or starts 0 0) (get_or ends 0 0)) _ (every-at n (monotone_at text starts ends size) t 0 h)
    monotone-none t (suc i) h =
        following-none _ _ _ _ _ (follows-following _ _ _ _ _ size (every-at n (monotone_at text starts ends size) t (suc i) h)).0

    monotone-last : monotone text starts ends size n ≡ true → (i : ℕ) → i < n → get_or ends i 0 ≤ size
    unfolding monotone monotone_at
    monotone-last t zero h =
        leb-true _ _ (and_elim_right (leb (get_or starts 0 0) (get_or ends 0 0)) _ (every-at n (monotone_at text starts ends size) t 0 h))
    monotone-last t (suc i) h =
        (follows-following _ _ _ _ _ size (every-at n (monotone_at text starts ends size) t (suc i) h)).1

    pub none-is-monotone : (found : ℕ) {y : ℕ} → 1 ≤ n → eqb found 0 ≡ none_misaligned text starts ends n → y ≡ get_or ends (n - 1) 0 - size → eqb (bit_or found y) 0 ≡ monotone text starts ends size n
    unfolding monotone none_misaligned
    none-is-monotone found {y} some p q =
        or-none found y ∙ ap (λ (x : Bool). x && eqb y 0) p ∙ ap (λ (x : Bool). none_misaligned text starts ends n && x) (ap (λ (v : ℕ). eqb v 0) q ∙ less_none (get_or ends (n - 1) 0) size)
        ∙ bool-ext _ _
        (λ both. every-all n (monotone_at text starts ends size) (none-monotone (and_elim_left (none_misaligned text starts ends n) _ both) (leb-true _ _ (and_elim_right (none_misaligned text starts ends n) _ both))))
        (λ t. and_intro (every-all n (λ k. eqb (misaligned_at text starts ends k) 0) (monotone-none t)) (le-leb _ _ (monotone-last t (n - 1) (omega arith))))
