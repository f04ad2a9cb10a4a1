-- What the inner functions are told and say.
use Rattle.std.specs.Prelude.{ℕ, ◌+◌, ◌≤◌, ◌≡◌, List, length, drop}
use Rattle.edits.specs.Plain.{widthless}

-- the alignments before i have no width
pub record HeadPassed (starts ends : List ℕ) (i : ℕ) : Type 0 where
  pub most : i ≤ length starts
  pub same : widthless starts ends ≡ i + widthless (drop i starts) (drop i ends)
