-- The working form of `aligned` and its loops; that it is `aligned`.
use Prim.Native.Nat.{ℕ, zero, suc, ◌+◌, ◌≤◌, ◌<◌}
use mathlib.Core.Path.{◌≡◌, ◌∙◌, ap, refl, sym}
use mathlib.Core.Bool.{Bool, true, false, ◌&&◌, ◌||◌, not}
use mathlib.Core.List.{List}
use mathlib.Mathlib.Data.Bool.Basic.{and_intro, and_elim_left, and_elim_right}
use borrow.Author.Tests.{lt-leb, leb-true, not-true, not-false}
use native.Mathlib.Omega.{arith}
use lib.Dec.{leb, eqb}
use lib.ListN.{length, get_or, get_or-eq_default}
use Rattle.buffers.specs.Every.{every_below}
use Rattle.buffers.proofs.Cases.{true-or-false, le-or-lt}
use Rattle.buffers.proofs.Booleans.{and-false-l}
use Rattle.buffers.proofs.Every.{every-suc, every-at, every-all}
use Rattle.utf8.specs.Table.{within}
use Rattle.utf8.specs.Formed.{continues, boundary}
use Rattle.utf8.proofs.Boundaries.{boundary-at, boundary-begins}
use Rattle.validity.specs.Texts.{ascii}
use Rattle.validity.proofs.Ascii.{ascii-at}
use Rattle.note.specs.Notes.{Note, lent, start_at, end_at, inside, on_boundaries, shared, forward, aligned}
use Rattle.boundaries.specs.Monotone.{follows, monotone_at, monotone, uncut, uncut_below}

module _ (text starts ends : List ℕ) (size : ℕ) where
  pub monotone-none : true ≡ monotone text starts ends size 0
  unfolding monotone every_below
  monotone-none = refl

module _ (original starts ends : List ℕ) where
  pub uncut-none : true ≡ uncut_below original starts ends 0
  unfolding uncut_below every_below
  uncut-none = refl

  pub uncut-more : (i : ℕ) (ok r q : Bool) → ok ≡ uncut_below original starts ends i → r ≡ uncut original (get_or starts i 0) → q ≡ uncut original (get_or ends i 0) → (ok && (r && q)) ≡ uncut_below original starts ends (i + 1)
  unfolding uncut_below
  uncut-more i ok r q p a b = rw (every-suc i (λ j. uncut original (get_or starts j 0) && uncut original (get_or ends j 0)), p, a, b)

pub uncut-past : (original : List ℕ) (p : ℕ) → length original ≤ p → true ≡ uncut original p
unfolding uncut continues within
uncut-past original p past = rw (get_or-eq_default original 0 past)

pub uncut-read : (original : List ℕ) (p : ℕ) (r : Bool) → r ≡ continues (get_or original p 0) → not r ≡ uncut original p
unfolding uncut
uncut-read original p r e = ap not e

-- a text of bytes below 80 is cut nowhere
uncut-ascii : (original : List ℕ) (p : ℕ) → ascii original ≡ true → uncut original p ≡ true
unfolding uncut continues within
uncut-ascii original p e =
    le-or-lt (length original) p
    (λ past. sym (uncut-past original p past))
    (λ below. rw (lt-leb 0x80 (get_or original p 0) (ascii-at original e p below)))

pub all_ascii : (original starts ends : List ℕ) (n : ℕ) → ascii original ≡ true → uncut_below original starts ends n ≡ true
unfolding uncut_below
all_ascii original starts ends n e = every-all n _ (λ i below. and_intro (uncut-ascii original _ e) (uncut-ascii original _ e))

pub bool-ext : (a b : Bool) → (a ≡ true → b ≡ true) → (b ≡ true → a ≡ true) → a ≡ b
bool-ext true b f g = sym (f refl)
bool-ext false b f g = true-or-false b (λ t. g t ∙ sym t) (λ t. sym t)

-- a loop's flag at its end
pub at-end : (f : ℕ → Bool) (i n : ℕ) (ok : Bool) → i ≤ n → n ≤ i → ok ≡ f i → ok ≡ f n
at-end f i n ok most past e = let end : i ≡ n = omega arith in e ∙ ap f end

module _ (n : Note) where
  -- at one index, the working form from the conditions
  monotone-from : (i : ℕ) → inside n i ≡ true → shared n i ≡ true → forward n i ≡ true → monotone_at n.normalized n.starts n.ends (length n.original) i ≡ true
  unfolding monotone_at follows inside shared forward
  monotone-from zero a b c = a
  monotone-from (suc i) a b c =
      and_intro (and_intro (and_intro a b) (and_elim_left (leb (start_at n i) (start_at n (suc i))) _ c)) (and_elim_right (leb (start_at n i) (start_at n (suc i))) _ c)

  -- and back
  monotone-inside : (i : ℕ) → monotone_at n.normalized n.starts n.ends (length n.original) i ≡ true → inside n i ≡ true
  unfolding monotone_at follows inside
  monotone-inside zero e = e
  monotone-inside (suc i) e =
      let low = leb (start_at n i) (start_at n (suc i)) in
      let same = not (continues (get_or n.normalized (suc i) 0)) || (eqb (start_at n i) (start_at n (suc i)) && eqb (end_at n i) (end_at n (suc i))) in
      and_elim_left (leb (start_at n (suc i)) (end_at n (suc i)) && leb (end_at n (suc i)) (length n.original)) same (and_elim_left _ low (and_elim_left _ (leb (end_at n i) (end_at n (suc i))) e))

  monotone-shared : (i : ℕ) → monotone_at n.normalized n.starts n.ends (length n.original) i ≡ true → shared n i ≡ true
  unfolding monotone_at follows shared
  monotone-shared zero e = refl
  monotone-shared (suc i) e =
      let low = leb (start_at n i) (start_at n (suc i)) in
      and_elim_right (leb (start_at n (suc i)) (end_at n (suc i)) && leb (end_at n (suc i)) (length n.original)) _ (and_elim_left _ low (and_elim_left _ (leb (end_at n i) (end_at n (suc i))) e))

  monotone-forward : (i : ℕ) → monotone_at n.normalized n.starts n.ends (length n.original) i ≡ true → forward n i ≡ true
  unfolding monotone_at follows forward
  monotone-forward zero e = refl
  monotone-forward (suc i) e =
      let inner = leb (start_at n (suc i)) (end_at n (suc i)) && leb (end_at n (suc i)) (length n.original) && (not (continues (get_or n.normalized (suc i) 0)) || (eqb (start_at n i) (start_at n (suc i)) && eqb (end_at n i) (end_at n (suc i)))) in
      let most = inner && leb (start_at n i) (start_at n (suc i)) in
      and_intro (and_elim_right inner (leb (start_at n i) (start_at n (suc i))) (and_elim_left most (leb (end_at n i) (end_at n (suc i))) e)) (and_elim_right most (leb (end_at n i) (end_at n (suc i))) e)

  bounds-from : (i : ℕ) → on_boundaries n i ≡ true → (uncut n.original (start_at n i) && uncut n.original (end_at n i)) ≡ true
  unfolding on_boundaries uncut
  bounds-from i e =
      let at : (p : ℕ) → boundary n.original p ≡ true → not (continues (get_or n.original p 0)) ≡ true = λ p b. ap not (boundary-begins n.original p b) in
      and_intro (at (start_at n i) (and_elim_left (boundary n.original (start_at n i)) _ e)) (at (end_at n i) (and_elim_right (boundary n.original (start_at n i)) _ e))

  bounds-back : (i : ℕ) → inside n i ≡ true → (uncut n.original (start_at n i) && uncut n.original (end_at n i)) ≡ true → on_boundaries n i ≡ true
  unfolding inside on_boundaries uncut
  bounds-back i a e =
      let low : start_at n i ≤ end_at n i = leb-true _ _ (and_elim_left (leb (start_at n i) (end_at n i)) _ a) in
      let high : end_at n i ≤ length n.original = leb-true _ _ (and_elim_right (leb (start_at n i) (end_at n i)) _ a) in
      let first = not (continues (get_or n.original (start_at n i) 0)) in
      and_intro
      (boundary-at n.original (start_at n i) (omega arith) (not-true _ (and_elim_left first _ e)))
      (boundary-at n.original (end_at n i) high (not-true _ (and_elim_right first _ e)))

  -- the alignments are sound exactly when each can follow the one before it and none cuts a character
  pub aligned-forms : aligned n ≡ (monotone n.normalized n.starts n.ends (length n.original) (length n.normalized) && uncut_below n.original n.starts n.ends (length n.normalized))
  unfolding aligned monotone uncut_below
  aligned-forms =
      let m = length n.normalized in
      let a = every_below m (inside n) in
      let b = every_below m (on_boundaries n) in
      let c = every_below m (shared n) in
      let d = every_below m (forward n) in
      let st = monotone_at n.normalized n.starts n.ends (length n.original) in
      let un : ℕ → Bool = λ i. uncut n.original (get_or n.starts i 0) && uncut n.original (get_or n.ends i 0) in
      bool-ext _ _
      (λ all.
      let abc = and_elim_left (a && b && c) d all in
      let ab = and_elim_left (a && b) c abc in
      and_intro
      (every-all m st (λ i h. monotone-from i (every-at m (inside n) (and_elim_left a b ab) i h) (every-at m (shared n) (and_elim_right (a && b) c abc) i h) (every-at m (forward n) (and_elim_right (a && b && c) d all) i h)))
      (every-all m un (λ i h. bounds-from i (every-at m (on_boundaries n) (and_elim_right a b ab) i h))))
      (λ both.
      let s = and_elim_left (every_below m st) (every_below m un) both in
      let u = and_elim_right (every_below m st) (every_below m un) both in
      let ins : (i : ℕ) → i < m → inside n i ≡ true = λ i h. monotone-inside i (every-at m st s i h) in
      and_intro
      (and_intro
      (and_intro (every-all m (inside n) ins) (every-all m (on_boundaries n) (λ i h. bounds-back i (ins i h) (every-at m un u i h))))
      (every-all m (shared n) (λ i h. monotone-shared i (every-at m st s i h))))
      (every-all m (forward n) (λ i h. monotone-forward i (every-at m st s i h))))

-- by what the code tests of a passed note; the shift has no part in it
module _ (o m s e : List ℕ) where
  pub not-monotone : {r : Bool} → r ≡ monotone m s e (length o) (length m) → not r ≡ true → false ≡ aligned (lent o m s e 0)
  not-monotone {r} is f = sym (aligned-forms (lent o m s e 0) ∙ and-false-l (monotone m s e (length o) (length m)) _ (sym is ∙ not-true r f))

  pub monotone-ascii : {r : Bool} → r ≡ monotone m s e (length o) (length m) → not r ≡ false → ascii o ≡ true → true ≡ aligned (lent o m s e 0)
  monotone-ascii {r} is t a = sym (aligned-forms (lent o m s e 0) ∙ and_intro (sym is ∙ not-false r t) (all_ascii o s e (length m) a))

  pub monotone-uncut : {r q : Bool} → r ≡ monotone m s e (length o) (length m) → not r ≡ false → q ≡ uncut_below o s e (length s) → length s ≡ length m → q ≡ aligned (lent o m s e 0)
  monotone-uncut {r} is t u same =
      u ∙ ap (uncut_below o s e) same
      ∙ sym (aligned-forms (lent o m s e 0) ∙ ap (λ (b : Bool). b && uncut_below o s e (length m)) (sym is ∙ not-false r t))

  pub aligned-shift : (shift : ℕ) {r : Bool} → r ≡ aligned (lent o m s e 0) → r ≡ aligned (lent o m s e shift)
  aligned-shift shift a = a ∙ aligned-forms (lent o m s e 0) ∙ sym (aligned-forms (lent o m s e shift))
