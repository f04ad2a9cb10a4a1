-- Laws of `lowered`: lengths, elements, parts; and a column that is being written, each number less a base.
use Prim.Native.Nat.{ℕ, zero, suc, ◌+◌, ◌-◌, ◌≤◌, ◌<◌}
use mathlib.Core.Path.{◌≡◌, ◌∙◌, ap, refl, sym}
use mathlib.Core.List.{List, [], ◌∷◌}
use native.Mathlib.Omega.{arith}
use lib.ListN.{length, get_or, set, take, drop}
use Rattle.buffers.specs.Splice.{part, splice}
use Rattle.buffers.proofs.Splice.{Written, one_more, all-written}
use Rattle.slice.specs.Slicing.{lowered}
use Rattle.slice.specs.Writing.{Lowerable}

pub length-lowered : (base : ℕ) (xs : List ℕ) → length (lowered base xs) ≡ length xs
unfolding lowered
length-lowered base [] = refl
length-lowered base (x ∷ xs) = ap suc (length-lowered base xs)

pub getD-lowered : (base : ℕ) (xs : List ℕ) (i : ℕ) → get_or (lowered base xs) i 0 ≡ get_or xs i 0 - base
unfolding lowered
getD-lowered base [] i = omega arith
getD-lowered base (x ∷ xs) zero = refl
getD-lowered base (x ∷ xs) (suc i) = getD-lowered base xs i

take-lowered : (base : ℕ) (xs : List ℕ) (n : ℕ) → take n (lowered base xs) ≡ lowered base (take n xs)
unfolding lowered
take-lowered base xs zero = refl
take-lowered base [] (suc n) = refl
take-lowered base (x ∷ xs) (suc n) = ap (◌∷◌ (x - base)) (take-lowered base xs n)

drop-lowered : (base : ℕ) (xs : List ℕ) (n : ℕ) → drop n (lowered base xs) ≡ lowered base (drop n xs)
unfolding lowered
drop-lowered base xs zero = refl
drop-lowered base [] (suc n) = refl
drop-lowered base (x ∷ xs) (suc n) = drop-lowered base xs n

pub part-lowered : (base : ℕ) (xs : List ℕ) (a e : ℕ) → part (lowered base xs) a e ≡ lowered base (part xs a e)
part-lowered base xs a e = ap (take (e - a)) (drop-lowered base xs a) ∙ take-lowered base (drop a xs) (e - a)

pub lowered-lowered : (a b : ℕ) (xs : List ℕ) → lowered a (lowered b xs) ≡ lowered (b + a) xs
unfolding lowered
lowered-lowered a b [] = refl
lowered-lowered a b (x ∷ xs) =
    let less : x - b - a ≡ x - (b + a) = omega arith in rw (less, lowered-lowered a b xs)

-- a column that is being written
module _ (base : ℕ) (column : List ℕ) {at : ℕ} {out₀ out : List ℕ} {j : ℕ} (w : Written (lowered base column) out₀ at out j) where
  pub one-lowered : {x : ℕ} → Lowerable column base out₀ at → j < length column → x ≡ get_or column j 0 - base → Written (lowered base column) out₀ at (set out (at + j) x) (j + 1)
  one-lowered l more is =
      one_more w (omega (arith, l.room, length-lowered base column)) (omega (arith, length-lowered base column)) (is ∙ sym (getD-lowered base column j))

  pub all-lowered : length column ≤ j → out ≡ splice out₀ at (lowered base column)
  all-lowered done = all-written w (omega (arith, length-lowered base column))
