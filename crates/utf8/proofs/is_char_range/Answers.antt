-- The tests are the definition's.
use native.Mathlib.Omega.{arith}
use Rattle.utf8.proofs.Boundaries.{char-range-reversed, char-range-both}
use Rattle.utf8.proofs.is_char_range.Goals as goal

pub returns-then-end-start : goal.returns-then-end-start
returns-then-end-start c = char-range-reversed _ _ _ (omega arith)

pub returns : goal.returns
returns c = char-range-both _ _ _ (omega arith) c.is_char_boundary.ensures c.is_char_boundary-2.ensures
