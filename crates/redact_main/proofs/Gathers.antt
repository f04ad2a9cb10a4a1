-- Laws of gathering: how many bytes and words there are so far, in buffers that keep their lengths.
use Prim.Native.Nat.{ℕ, ◌≤◌}
use mathlib.Core.Path.{◌≡◌, ◌∙◌, sym}
use mathlib.Core.List.{List}
use native.Mathlib.Omega.{arith}
use lib.ListN.{length, take}
use lib.Seq.{length-take-le}
use Rattle.note.specs.Notes.{limit}

pub record Gathering (words₀ sizes₀ words sizes : List ℕ) (at : ℕ) : Type 0 where
  pub words_within : at ≤ length words
  pub words_same : length words ≡ length words₀
  pub sizes_same : length sizes ≡ length sizes₀

-- so many elements of a longer list
pub front_long : (k : ℕ) (xs : List ℕ) → k ≤ length xs → k ≤ length (take k xs)
front_long k xs h = omega (arith, length-take-le k xs h)

-- both columns of a text within the limit
pub fronts-even : (k : ℕ) (xs ys : List ℕ) → k ≤ length xs → k ≤ length ys → k ≤ limit → (length (take k xs) ≡ length (take k ys)) × (length (take k xs) ≤ limit)
fronts-even k xs ys x y short = (length-take-le k xs x ∙ sym (length-take-le k ys y), omega (arith, length-take-le k xs x, short))
