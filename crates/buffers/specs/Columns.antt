-- Lists by index: a column of numbers, and a passed buffer that has some of them.
use Rattle.std.specs.Prelude.{ℕ, zero, suc, ◌≤◌, ◌<◌, ◌≡◌, List, [], ◌∷◌, ◌++◌, length, get_or}

-- a number for each index below n
unfoldable pub column : ℕ → (ℕ → ℕ) → List ℕ
column zero f = []
column (suc n) f = column n f ++ (f n ∷ [])

-- d has the numbers of f at the indices from..to, and those of d₀ elsewhere
pub record Filled (f : ℕ → ℕ) (d₀ : List ℕ) (from to : ℕ) (d : List ℕ) : Type 0 where
  pub ordered : from ≤ to
  pub same : length d ≡ length d₀
  pub within : (k : ℕ) → from ≤ k → k < to → get_or d k 0 ≡ f k
  pub before : (k : ℕ) → k < from → get_or d k 0 ≡ get_or d₀ k 0
  pub beyond : (k : ℕ) → to ≤ k → get_or d k 0 ≡ get_or d₀ k 0
