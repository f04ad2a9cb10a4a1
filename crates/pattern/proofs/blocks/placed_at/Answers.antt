-- The tests are the definition's; a start and an end are compared by their bytes.
use native.Mathlib.Omega.{arith}
use Rattle.pattern.proofs.Placed.{placed_by}
use Rattle.pattern.proofs.blocks.placed_at.Goals as goal

pub returns : goal.returns
returns c = placed_by _ _ _ _ _ _ (omega arith) (omega arith)
