-- A byte's range counted from the bytes beside it, and the columns that are written by such counts.
use Prim.Native.Nat.{ℕ, zero, suc, ◌+◌, ◌-◌, ◌≤◌, ◌<◌}
use mathlib.Core.Path.{◌≡◌, refl}
use mathlib.Core.Bool.{Bool, true, false, cond, ◌&&◌}
use mathlib.Core.List.{List}
use native.Mathlib.Omega.{arith}
use mir.Val.{bool_byte}
use lib.ListN.{length, get_or, get_or-eq_default}
use Rattle.buffers.specs.Columns.{Filled}
use Rattle.buffers.proofs.Cases.{le-or-lt, true-or-false}
use Rattle.buffers.proofs.Columns.{filled_at, filled-as}
use Rattle.utf8.specs.Formed.{well_formed, continues}
use Rattle.utf8.proofs.Boundaries.{boundary-begins}
use Rattle.utf8.proofs.Formed.{announced-small}
use Rattle.utf8.specs.CharRanges.{char_start, char_end}
use Rattle.utf8.proofs.CharRanges.{Ranged, ranged}
use Rattle.column_blocks.specs.ContinuationRun.{continuation_run, run_at}

-- the count by flags, as the code adds them up
pub flag_small : (x : Bool) → bool_byte x ≤ 1
flag_small true = omega arith
flag_small false = omega arith

flags : (x y z : Bool) → bool_byte x + bool_byte (x && y) + bool_byte ((x && y) && z) ≡ cond x (cond y (cond z 3 2) 1) 0
flags true true true = refl
flags true true false = refl
flags true false z = refl
flags false y z = refl

pub run-flags : (a b c : ℕ) (x y z : Bool) → x ≡ continues a → y ≡ continues b → z ≡ continues c → bool_byte x + bool_byte (x && y) + bool_byte ((x && y) && z) ≡ continuation_run a b c
unfolding continuation_run
run-flags a b c x y z p q r = rw (← p, ← q, ← r) (flags x y z)

pub run_small : (a b c : ℕ) → continuation_run a b c ≤ 3
unfolding continuation_run
run_small a b c =
    true-or-false (continues a)
    (λ p. rw p (true-or-false (continues b)
    (λ q. rw q (true-or-false (continues c) (λ r. rw r (omega arith)) (λ r. rw r (omega arith))))
    (λ q. rw q (omega arith))))
    (λ p. rw p (omega arith))

-- the first n bytes of three continue a character, and the next one does not
module _ (a b c : ℕ) where
  pub record Continued (n : ℕ) : Type 0 where
    pub most : n ≤ 3
    pub first : 0 < n → continues a ≡ true
    pub second : 1 < n → continues b ≡ true
    pub third : 2 < n → continues c ≡ true
    pub not_first : n ≡ 0 → continues a ≡ false
    pub not_second : n ≡ 1 → continues b ≡ false
    pub not_third : n ≡ 2 → continues c ≡ false

  run_is : (n : ℕ) → Continued n → continuation_run a b c ≡ n
  unfolding continuation_run
  run_is zero w = rw (w.not_first refl)
  run_is (suc zero) w = rw (w.first (omega arith), w.not_second refl)
  run_is (suc (suc zero)) w = rw (w.first (omega arith), w.second (omega arith), w.not_third refl)
  run_is (suc (suc (suc zero))) w = rw (w.first (omega arith), w.second (omega arith), w.third (omega arith))
  run_is (suc (suc (suc (suc n)))) w = absurd (omega (arith, w.most))

-- at most four bytes are a character
four : (s : List ℕ) (i : ℕ) → char_end s i ≤ char_start s i + 4
unfolding char_end
four s i = omega (arith, announced-small (get_or s (char_start s i) 0))

module _ (s : List ℕ) (i : ℕ) (p : well_formed s ≡ true) (h : i < length s) where
  r : Ranged s i
  r = ranged s i p h

  begins : (k : ℕ) → k ≡ char_start s i → continues (get_or s k 0) ≡ false
  begins k e = rw e (boundary-begins s (char_start s i) r.begins)

  ends : (k : ℕ) → k ≡ char_end s i → continues (get_or s k 0) ≡ false
  ends k e = rw e (boundary-begins s (char_end s i) r.ends)

  -- a byte's start is as far back as bytes up to it continue a character; c is the third of them, or tells the same
  pub back_by : (c : ℕ) → 1 ≤ i → (i - char_start s i ≤ 3) → (2 < i - char_start s i → continues c ≡ true) → (i - char_start s i ≡ 2 → continues c ≡ false) → char_start s i + continuation_run (get_or s i 0) (get_or s (i - 1) 0) c ≡ i
  back_by c low few third not_third =
      let count : continuation_run (get_or s i 0) (get_or s (i - 1) 0) c ≡ i - char_start s i = run_is _ _ _ (i - char_start s i)
      (record {
        most = few;
        first = λ n. r.rest i (omega (arith, r.from, r.past)) r.past;
        second = λ n. r.rest (i - 1) (omega (arith, r.from, r.past)) (omega (arith, r.from, r.past));
        third = third;
        not_first = λ n. begins i (omega (arith, r.from, r.past));
        not_second = λ n. begins (i - 1) (omega (arith, r.from, r.past));
        not_third = not_third;
      }) in
      omega (arith, r.from, r.past)

  pub start_back : 2 ≤ i → char_start s i + continuation_run (get_or s i 0) (get_or s (i - 1) 0) (get_or s (i - 2) 0) ≡ i
  start_back low =
      back_by (get_or s (i - 2) 0) (omega (arith, r.from, r.past)) (omega (arith, four s i, r.past)) (λ n. r.rest (i - 2) (omega (arith, r.from, r.past)) (omega (arith, r.from, r.past))) (λ n. begins (i - 2) (omega (arith, r.from, r.past)))

  -- and its end as far ahead as bytes after it do
  pub ahead-by : (c : ℕ) → (char_end s i - (i + 1) ≤ 3) → (2 < char_end s i - (i + 1) → continues c ≡ true) → (char_end s i - (i + 1) ≡ 2 → continues c ≡ false) → char_end s i ≡ i + 1 + continuation_run (get_or s (i + 1) 0) (get_or s (i + 2) 0) c
  ahead-by c few third not_third =
      let count : continuation_run (get_or s (i + 1) 0) (get_or s (i + 2) 0) c ≡ char_end s i - (i + 1) = run_is _ _ _ (char_end s i - (i + 1))
      (record {
        most = few;
        first = λ n. r.rest (i + 1) (omega (arith, r.from, r.past)) (omega (arith, r.from, r.past));
        second = λ n. r.rest (i + 2) (omega (arith, r.from, r.past)) (omega (arith, r.from, r.past));
        third = third;
        not_first = λ n. ends (i + 1) (omega (arith, r.from, r.past));
        not_second = λ n. ends (i + 2) (omega (arith, r.from, r.past));
        not_third = not_third;
      }) in
      omega (arith, r.from, r.past)

  pub end-ahead : char_end s i ≡ i + 1 + continuation_run (get_or s (i + 1) 0) (get_or s (i + 2) 0) (get_or s (i + 3) 0)
  end-ahead = ahead-by (get_or s (i + 3) 0) (omega (arith, four s i, r.from)) (λ n. r.rest (i + 3) (omega (arith, r.from, r.past)) (omega (arith, r.from, r.past))) (λ n. ends (i + 3) (omega (arith, r.from, r.past)))

-- one number of a column, by the count at its index less `at`
pub back_at : (counts : List ℕ) (i at k : ℕ) → i + k - get_or counts k 0 ≡ i + (at + k - at) - get_or counts (at + k - at) 0
back_at counts i at k = let here : at + k - at ≡ k = omega arith in rw here

pub ahead-at : (counts : List ℕ) (i at k : ℕ) → i + k + 1 + get_or counts k 0 ≡ i + (at + k - at) + 1 + get_or counts (at + k - at) 0
ahead-at counts i at k = let here : at + k - at ≡ k = omega arith in rw here

-- the counts of a block, from three places on
module _ (s : List ℕ) (a b c : ℕ) (z counts : List ℕ) (w : Filled (run_at s a b c) z 0 (length z) counts) where
  pub counts-small : (k : ℕ) → get_or counts k 0 ≤ 3
  counts-small k =
      le-or-lt (length z) k
      (λ past. let none : get_or counts k 0 ≡ 0 = get_or-eq_default counts 0 (omega (arith, w.same)) in omega arith)
      (λ below. omega (arith, w.within k (omega arith) below, run_small (get_or s (a + k) 0) (get_or s (b + k) 0) (get_or s (c + k) 0)))

  counted : (k x y v : ℕ) → k < length z → a + k ≡ x → b + k ≡ y → c + k ≡ v → get_or counts k 0 ≡ continuation_run (get_or s x 0) (get_or s y 0) (get_or s v 0)
  counted k x y v h p q r = rw (← p, ← q, ← r) (w.within k (omega arith) h)

-- a block of starts, and one of ends, from `at` on
pub block-starts : (s : List ℕ) (i n : ℕ) (z counts d₀ d : List ℕ) (at : ℕ) → well_formed s ≡ true → 2 ≤ i → i + n ≤ length s → length z ≡ n
    → Filled (run_at s i (i - 1) (i - 2)) z 0 (length z) counts → Filled (λ k. i + (k - at) - get_or counts (k - at) 0) d₀ at (at + length counts) d
    → Filled (λ k. char_start s (i + (k - at))) d₀ at (at + n) d
block-starts s i n z counts d₀ d at p low room long w made =
    filled-as _ (λ k. char_start s (i + (k - at))) d₀ at (at + n) d (filled_at _ d₀ at (at + length counts) at (at + n) d made refl (omega (arith, w.same)))
    (λ k from to.
    let count = counted s i (i - 1) (i - 2) z counts w (k - at) (i + (k - at)) (i + (k - at) - 1) (i + (k - at) - 2) (omega arith) (omega arith) (omega arith) (omega arith) in
    omega (arith, count, start_back s (i + (k - at)) p (omega arith) (omega arith)))

pub block-ends : (s : List ℕ) (i n : ℕ) (z counts d₀ d : List ℕ) (at : ℕ) → well_formed s ≡ true → i + n ≤ length s → length z ≡ n
    → Filled (run_at s (i + 1) (i + 2) (i + 3)) z 0 (length z) counts
    → Filled (λ k. i + (k - at) + 1 + get_or counts (k - at) 0) d₀ at (at + length counts) d → Filled (λ k. char_end s (i + (k - at))) d₀ at (at + n) d
block-ends s i n z counts d₀ d at p room long w made =
    filled-as _ (λ k. char_end s (i + (k - at))) d₀ at (at + n) d (filled_at _ d₀ at (at + length counts) at (at + n) d made refl (omega (arith, w.same)))
    (λ k from to.
    let count = counted s (i + 1) (i + 2) (i + 3) z counts w (k - at) (i + (k - at) + 1) (i + (k - at) + 2) (i + (k - at) + 3) (omega arith) (omega arith) (omega arith) (omega arith) in
    omega (arith, count, end-ahead s (i + (k - at)) p (omega arith)))
