-- The working form of `fits` and `paired`, by lengths alone.
use Rattle.std.specs.Prelude.{ℕ, ◌+◌, Bool, ◌&&◌, leb, eqb}

unfoldable pub lengths_fit : ℕ → ℕ → ℕ → ℕ → Bool
lengths_fit most original normalized shift = leb original most && leb normalized most && leb (shift + original) most

unfoldable pub lengths_paired : ℕ → ℕ → ℕ → Bool
lengths_paired normalized starts ends = eqb starts normalized && eqb ends normalized
