use native.Mathlib.Omega.{arith}
use Rattle.validity_blocks.proofs.Valid.{each_between}
use Rattle.validity_blocks.proofs.blocks.valid_two.Goals as goal

pub all_stand-requires-clause-callable : goal.all_stand-requires-clause-callable
all_stand-requires-clause-callable c j inside =
    let four = each_between _ c.requires.1 c.requires.2 j inside in
    (omega (arith, four.0.low), four.1.low, four.2, four.3)
