-- Laws of `column` and of `Filled`: numbers that are being written into a passed buffer, from either end: none yet, one
-- more, a stretch more, all of a column; and three columns written together.
use Prim.Native.Nat.{ℕ, zero, suc, ◌+◌, ◌-◌, ◌≤◌, ◌<◌}
use mathlib.Core.Path.{◌≡◌, ◌∙◌, refl, sym}
use mathlib.Core.List.{List, [], ◌∷◌, ◌++◌}
use native.Mathlib.Omega.{arith}
use lib.ListN.{length, get_or, drop, set, length-append, length-drop, length-set, get_or-append}
use lib.Seq.{get_or_at, get_or-append-add, get_or-drop, get_or-set_same, get_or-set_other, ext_get_or}
use Rattle.buffers.specs.Splice.{overlay}
use Rattle.buffers.proofs.Cases.{le-or-lt}
use Rattle.buffers.specs.Columns.{column, Filled}

pub length-column : (n : ℕ) (f : ℕ → ℕ) → length (column n f) ≡ n
unfolding column
length-column zero f = refl
length-column (suc n) f = rw (length-append (column n f) (f n ∷ []), length-column n f) (omega arith)

pub getD-column : (n : ℕ) (f : ℕ → ℕ) (i : ℕ) → i < n → get_or (column n f) i 0 ≡ f i
unfolding column
getD-column zero f i h = absurd (omega arith)
getD-column (suc n) f i h =
    let long : length (column n f) ≡ n = length-column n f in
    le-or-lt n i
    (λ top. let last : i ≡ n = omega arith in rw last (get_or_at (column n f) (f n) [] 0 n long))
    (λ below. get_or-append (column n f) (f n ∷ []) 0 i (omega arith) ∙ getD-column n f i below)

pub none_filled : (f : ℕ → ℕ) (d : List ℕ) (n : ℕ) → Filled f d n n d
none_filled f d n = record { ordered = omega arith; same = refl; within = λ k a b. absurd (omega arith); before = λ k a. refl; beyond = λ k a. refl }

-- one more number after the others
pub filled-up : (f : ℕ → ℕ) (d₀ : List ℕ) (a i : ℕ) (d : List ℕ) (x : ℕ) → Filled f d₀ a i d → i < length d₀ → x ≡ f i → Filled f d₀ a (i + 1) (set d i x)
filled-up f d₀ a i d x w h is =
    record {
      ordered = omega (arith, w.ordered);
      same = simp length-set w.same;
      within = λ k from to.
          le-or-lt i k
          (λ top. let last : k ≡ i = omega arith in rw (last, get_or-set_same d i x 0 (omega arith)) is)
          (λ below. get_or-set_other d i k x 0 (λ e. absurd (omega arith)) ∙ w.within k from below);
      before = λ k below. get_or-set_other d i k x 0 (λ e. absurd (omega (arith, w.ordered))) ∙ w.before k below;
      beyond = λ k from. get_or-set_other d i k x 0 (λ e. absurd (omega arith)) ∙ w.beyond k (omega arith);
    }

-- one more that is there already
pub filled-kept : (f : ℕ → ℕ) (d₀ : List ℕ) (a i : ℕ) (d : List ℕ) → Filled f d₀ a i d → get_or d₀ i 0 ≡ f i → Filled f d₀ a (i + 1) d
filled-kept f d₀ a i d w is =
    record {
      ordered = omega (arith, w.ordered);
      same = w.same;
      within = λ k from to.
          le-or-lt i k
          (λ top. let last : k ≡ i = omega arith in rw last (w.beyond i (omega arith) ∙ is))
          (λ below. w.within k from below);
      before = w.before;
      beyond = λ k from. w.beyond k (omega arith);
    }

-- one more number before the others
pub filled-down : (f : ℕ → ℕ) (d₀ : List ℕ) (i b : ℕ) (d : List ℕ) (x : ℕ) → Filled f d₀ (i + 1) b d → b ≤ length d₀ → x ≡ f i → Filled f d₀ i b (set d i x)
filled-down f d₀ i b d x w room is =
    record {
      ordered = omega (arith, w.ordered);
      same = simp length-set w.same;
      within = λ k from to.
          le-or-lt k i
          (λ low. let first : k ≡ i = omega arith in rw (first, get_or-set_same d i x 0 (omega arith)) is)
          (λ above. get_or-set_other d i k x 0 (λ e. absurd (omega arith)) ∙ w.within k (omega arith) to);
      before = λ k below. get_or-set_other d i k x 0 (λ e. absurd (omega arith)) ∙ w.before k (omega arith);
      beyond = λ k from. get_or-set_other d i k x 0 (λ e. absurd (omega arith)) ∙ w.beyond k from;
    }

-- a stretch after the others, and one before them
module _ (f : ℕ → ℕ) (d₀ : List ℕ) (a b c : ℕ) (d d₁ : List ℕ) where
  pub filled-after : Filled f d₀ a b d → Filled f d b c d₁ → Filled f d₀ a c d₁
  filled-after w more =
      record {
        ordered = omega (arith, w.ordered, more.ordered);
        same = more.same ∙ w.same;
        within = λ k from to.
            le-or-lt b k (λ top. more.within k top to) (λ below. more.before k below ∙ w.within k from below);
        before = λ k below. more.before k (omega (arith, w.ordered)) ∙ w.before k below;
        beyond = λ k from. more.beyond k from ∙ w.beyond k (omega (arith, more.ordered));
      }

  pub filled-before : Filled f d₀ b c d → Filled f d a b d₁ → Filled f d₀ a c d₁
  filled-before w more =
      record {
        ordered = omega (arith, w.ordered, more.ordered);
        same = more.same ∙ w.same;
        within = λ k from to.
            le-or-lt b k (λ top. more.beyond k top ∙ w.within k top to) (λ below. more.within k from below);
        before = λ k below. more.before k below ∙ w.before k (omega (arith, more.ordered));
        beyond = λ k from. more.beyond k (omega (arith, w.ordered)) ∙ w.beyond k from;
      }

-- other bounds of the same value
pub filled_at : (f : ℕ → ℕ) (d₀ : List ℕ) (a b a₁ b₁ : ℕ) (d : List ℕ) → Filled f d₀ a b d → a ≡ a₁ → b ≡ b₁ → Filled f d₀ a₁ b₁ d
filled_at f d₀ a b a₁ b₁ d w p q = rw (p, q) at w

-- only the numbers within count
pub filled-as : (f g : ℕ → ℕ) (d₀ : List ℕ) (a b : ℕ) (d : List ℕ) → Filled f d₀ a b d → ((k : ℕ) → a ≤ k → k < b → f k ≡ g k) → Filled g d₀ a b d
filled-as f g d₀ a b d w is =
    record { ordered = w.ordered; same = w.same; within = λ k from to. w.within k from to ∙ is k from to; before = w.before; beyond = w.beyond }

pub all-filled : (f : ℕ → ℕ) (d₀ : List ℕ) (n : ℕ) (d : List ℕ) → Filled f d₀ 0 n d → n ≤ length d₀ → d ≡ overlay (column n f) d₀
unfolding overlay
all-filled f d₀ n d w room =
    let long : length (column n f) ≡ n = length-column n f in
    ext_get_or 0 d (column n f ++ drop (length (column n f)) d₀)
    (w.same ∙ simp (length-append, length-drop) (omega arith))
    (λ k h.
    le-or-lt n k
    (λ top.
    let at : length (column n f) + (k - length (column n f)) ≡ k = omega arith in
    w.beyond k top
    ∙ sym ((rw at at (get_or-append-add (column n f) (drop (length (column n f)) d₀) (k - length (column n f)) 0))
    ∙ (rw at at (get_or-drop (length (column n f)) d₀ (k - length (column n f)) 0))))
    (λ below.
    w.within k (omega arith) below
    ∙ sym (get_or-append (column n f) (drop (length (column n f)) d₀) 0 k (omega arith) ∙ getD-column n f k below)))

-- three columns that are written together, an element of each in a turn; the first one's may stand there already
pub record Filling (f g h : ℕ → ℕ) (n : ℕ) (a₀ b₀ c₀ a b c : List ℕ) (i : ℕ) : Type 0 where
  pub most : i ≤ n
  pub first : Filled f a₀ 0 i a
  pub second : Filled g b₀ 0 i b
  pub third : Filled h c₀ 0 i c

pub none-filling : {f g h : ℕ → ℕ} {n : ℕ} {a b c : List ℕ} → Filling f g h n a b c a b c 0
none-filling {a = a} {b = b} {c = c} =
    record { most = omega arith; first = none_filled _ a 0; second = none_filled _ b 0; third = none_filled _ c 0 }

module _ {f g h : ℕ → ℕ} {n : ℕ} {a₀ b₀ c₀ a b c : List ℕ} {i : ℕ} (w : Filling f g h n a₀ b₀ c₀ a b c i) where
  pub one-filling : {x y z : ℕ} → i < n → n ≤ length a₀ → n ≤ length b₀ → n ≤ length c₀ → x ≡ f i → y ≡ g i → z ≡ h i → Filling f g h n a₀ b₀ c₀ (set a i x) (set b i y) (set c i z) (i + 1)
  one-filling more ra rb rc p q r =
      record {
        most = omega arith;
        first = filled-up f a₀ 0 i a _ w.first (omega arith) p;
        second = filled-up g b₀ 0 i b _ w.second (omega arith) q;
        third = filled-up h c₀ 0 i c _ w.third (omega arith) r;
      }

  pub all-filling : n ≤ i → n ≤ length a₀ → n ≤ length b₀ → n ≤ length c₀ → (a ≡ overlay (column n f) a₀) × (b ≡ overlay (column n g) b₀) × (c ≡ overlay (column n h) c₀)
  all-filling past ra rb rc =
      let end : i ≡ n = omega (arith, w.most) in (
        all-filled f a₀ n a (rw end at w.first) ra,
        all-filled g b₀ n b (rw end at w.second) rb,
        all-filled h c₀ n c (rw end at w.third) rc,
      )
