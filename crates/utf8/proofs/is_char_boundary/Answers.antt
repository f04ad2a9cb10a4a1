-- Before the end the byte decides, and from there on only the end is a boundary.
use native.Mathlib.Omega.{arith}
use Rattle.utf8.proofs.Boundaries.{boundary-lt, boundary-ge}
use Rattle.utf8.proofs.is_char_boundary.Goals as goal

pub returns-then-i-s : goal.returns-then-i-s
returns-then-i-s c = boundary-lt _ _ (omega arith) c.continues.ensures

pub returns : goal.returns
returns c = boundary-ge _ _ (omega arith)
