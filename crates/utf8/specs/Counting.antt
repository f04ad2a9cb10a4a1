-- The working form of a count of characters, byte by byte.
use Rattle.std.specs.Prelude.{ℕ, ◌≤◌, ◌≡◌, List, length, take}
use Rattle.utf8.specs.Chars.{leads}

-- a count that has come as far as i
pub record Counted (s : List ℕ) (n i : ℕ) : Type 0 where
  pub so_far : n ≡ leads (take i s)
  pub most : i ≤ length s
