-- Whether two lists are the same, as a test.
use Rattle.std.specs.Prelude.{ℕ, Bool, List, eqb}
use Rattle.std.specs.Cmp.Lexicographic.{pointwise}

abbrev pub same : List ℕ → List ℕ → Bool
same = pointwise eqb
