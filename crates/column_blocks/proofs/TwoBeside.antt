-- In a text without a character of four bytes the two bytes beside a byte tell its range.
use Prim.Native.Nat.{ℕ, ◌+◌, ◌-◌, ◌≤◌, ◌<◌}
use mathlib.Core.Path.{◌≡◌, refl}
use mathlib.Core.Bool.{Bool, true, false, cond, not, ◌||◌}
use mathlib.Core.List.{List}
use native.Mathlib.Omega.{arith}
use mir.Val.{bool_byte}
use lib.Dec.{ltb}
use lib.ListN.{length, get_or, get_or-eq_default}
use borrow.Author.Tests.{lt-ltb}
use Rattle.buffers.specs.Splice.{part}
use Rattle.buffers.specs.Columns.{Filled}
use Rattle.buffers.proofs.Cases.{le-or-lt, true-or-false}
use Rattle.buffers.proofs.Splice.{part-index}
use Rattle.buffers.proofs.Columns.{filled-as}
use Rattle.utf8.specs.Table.{within}
use Rattle.utf8.specs.Formed.{announced, well_formed, continues}
use Rattle.validity_blocks.specs.Extremes.{largest}
use Rattle.validity_blocks.proofs.Largest.{largest-at}
use Rattle.utf8.specs.CharRanges.{char_start, char_end}
use Rattle.utf8.proofs.CharRanges.{Ranged, ranged}
use Rattle.column_blocks.specs.ContinuationRun.{continuation_run}
use Rattle.column_blocks.proofs.ContinuationRun.{back_by, ahead-by}

-- the flags, as the code adds them up
flags : (x y : Bool) → bool_byte (not x) + bool_byte (not x || not y) + cond x (cond y 2 1) 0 ≡ 2
flags true true = refl
flags true false = refl
flags false y = refl

pub begun-flags : (a b : ℕ) {x y : Bool} → x ≡ continues a → y ≡ continues b → bool_byte (not x) + bool_byte (not x || not y) + continuation_run a b 0 ≡ 2
unfolding continuation_run continues within
begun-flags a b {x} {y} p q = rw (← p, ← q) (flags x y)

-- so there are two at most
pub pair_small : (a b : ℕ) → continuation_run a b 0 ≤ 2
pair_small a b = omega (arith, begun-flags a b {x = continues a} {y = continues b} refl refl)

announced-three : (b : ℕ) → b < 0xF0 → announced b ≤ 3
unfolding announced
announced-three b h =
    rw (lt-ltb b 0xF0 h)
    (true-or-false (ltb b 0x80)
    (λ t. rw t (omega arith))
    (λ f. rw f (true-or-false (ltb b 0xC2) (λ t. rw t (omega arith)) (λ g. rw g (true-or-false (ltb b 0xE0) (λ t. rw t (omega arith)) (λ e. rw e (omega arith)))))))

none-goes-on : continues 0 ≡ false
unfolding continues within
none-goes-on = refl

module _ (s : List ℕ) (p : well_formed s ≡ true) (low : largest s < 0xF0) (i : ℕ) (h : i < length s) where
  three : char_end s i ≤ char_start s i + 3
  unfolding char_end
  three = omega (arith, announced-three (get_or s (char_start s i) 0) (omega (arith, largest-at s (char_start s i))))

  pub pair-back : 1 ≤ i → char_start s i + continuation_run (get_or s i 0) (get_or s (i - 1) 0) 0 ≡ i
  pair-back some =
      let r : Ranged s i = ranged s i p h in
      back_by s i p h 0 some (omega (arith, three, r.past)) (λ n. absurd (omega (arith, three, r.past))) (λ n. none-goes-on)

  pub pair-ahead : char_end s i ≡ i + 1 + continuation_run (get_or s (i + 1) 0) (get_or s (i + 2) 0) 0
  pair-ahead =
      let r : Ranged s i = ranged s i p h in
      ahead-by s i p h 0 (omega (arith, three, r.from)) (λ n. absurd (omega (arith, three, r.from))) (λ n. none-goes-on)

-- one number of a column, by the step at its index less `at`
pub step-at : (base : ℕ) (steps : List ℕ) (at k : ℕ) → base + get_or steps k 0 ≡ base + get_or steps (at + k - at) 0
step-at base steps at k = let here : at + k - at ≡ k = omega arith in rw here

-- no step is more than the most that is asked for
pub steps-most : {f : ℕ → ℕ} {z steps : List ℕ} (m : ℕ) → length z ≡ 64 → Filled f z 0 64 steps → ((k : ℕ) → k < 64 → f k ≤ m) → (k : ℕ) → get_or steps k 0 ≤ m
steps-most {steps = steps} m long w below k =
    le-or-lt 64 k
    (λ past. let none : get_or steps k 0 ≡ 0 = get_or-eq_default steps 0 (omega (arith, w.same)) in omega arith)
    (λ h. omega (arith, w.within k (omega arith) h, below k h))

-- a block, by its steps
module _ (s : List ℕ) (p : well_formed s ≡ true) (low : largest s < 0xF0) (i : ℕ) (l : ℕ) (at : ℕ) (d₀ d z steps : List ℕ) where
  pub pairs-starts : 2 ≤ i → i + 67 ≤ length s → l ≤ i - 2
      → Filled (λ k. l + k + 2 - continuation_run (get_or (part s i (i + 64)) k 0) (get_or (part s (i - 1) (i - 1 + 64)) k 0) 0) z 0 64 steps
      → Filled (λ k. i - 2 - l + get_or steps (k - at) 0) d₀ at (at + 64) d → Filled (λ k. char_start s (i + (k - at))) d₀ at (at + 64) d
  pairs-starts some room few w made =
      filled-as _ (λ k. char_start s (i + (k - at))) d₀ at (at + 64) d made
      (λ k from to.
      let j : ℕ = k - at in
      let step = w.within j (omega arith) (omega arith) in
      let here : get_or (part s i (i + 64)) j 0 ≡ get_or s (i + j) 0 = part-index s i (i + 64) j (omega arith) in
      let back : get_or (part s (i - 1) (i - 1 + 64)) j 0 ≡ get_or s (i + j - 1) 0 = let is : i - 1 + j ≡ i + j - 1 = omega arith in rw is at (part-index s (i - 1) (i - 1 + 64) j (omega arith)) in
      omega (arith, rw (here, back) at step, pair_small (get_or s (i + j) 0) (get_or s (i + j - 1) 0), pair-back s p low (i + j) (omega arith) (omega arith)))

  pub pairs-ends : 2 ≤ i → i + 67 ≤ length s → l ≤ i - 2
      → Filled (λ k. l + k + 3 + continuation_run (get_or (part s (i + 1) (i + 1 + 64)) k 0) (get_or (part s (i + 2) (i + 2 + 64)) k 0) 0) z 0 64 steps
      → Filled (λ k. i - 2 - l + get_or steps (k - at) 0) d₀ at (at + 64) d → Filled (λ k. char_end s (i + (k - at))) d₀ at (at + 64) d
  pairs-ends some room few w made =
      filled-as _ (λ k. char_end s (i + (k - at))) d₀ at (at + 64) d made
      (λ k from to.
      let j : ℕ = k - at in
      let step = w.within j (omega arith) (omega arith) in
      let one : get_or (part s (i + 1) (i + 1 + 64)) j 0 ≡ get_or s (i + j + 1) 0 = let is : i + 1 + j ≡ i + j + 1 = omega arith in rw is at (part-index s (i + 1) (i + 1 + 64) j (omega arith)) in
      let two : get_or (part s (i + 2) (i + 2 + 64)) j 0 ≡ get_or s (i + j + 2) 0 = let is : i + 2 + j ≡ i + j + 2 = omega arith in rw is at (part-index s (i + 2) (i + 2 + 64) j (omega arith)) in
      omega (arith, rw (one, two) at step, pair-ahead s p low (i + j) (omega arith)))
