-- Laws of Booleans that mathlib.Core.Bool and mathlib.Mathlib.Data.Bool.Basic do not have.
use Prim.Native.Nat.{ℕ, ◌≤◌}
use mathlib.Core.Path.{◌≡◌, refl, sym}
use mathlib.Core.Bool.{Bool, true, false, cond, ◌&&◌, ◌||◌, not, beq}
use native.Mathlib.Omega.{arith}

pub beq_same : (a b : Bool) → beq a b ≡ true → a ≡ b
beq_same true true e = refl
beq_same true false e = sym e
beq_same false true e = e
beq_same false false e = refl

-- a number that is chosen, or 0, is no more than the number
pub select-most : (chosen : Bool) (v : ℕ) {r : ℕ} → r ≡ cond chosen v 0 → r ≤ v
select-most true v is = omega arith
select-most false v is = omega arith

pub and-false-l : (a b : Bool) → a ≡ false → (a && b) ≡ false
and-false-l a b p = rw p

pub and_false_r : (a b : Bool) → b ≡ false → (a && b) ≡ false
and_false_r true b p = p
and_false_r false b p = refl

-- the second halves have to agree only where the first holds
pub and-cong : (a x y : Bool) → (a ≡ true → x ≡ y) → (a && x) ≡ (a && y)
and-cong true x y h = h refl
and-cong false x y h = refl

-- one more test that fails beside those that did
pub de-morgan : (a b : Bool) → (not a || b) ≡ not (a && not b)
de-morgan true true = refl
de-morgan true false = refl
de-morgan false b = refl
