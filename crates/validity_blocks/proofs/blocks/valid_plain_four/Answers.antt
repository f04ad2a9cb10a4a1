use Rattle.validity_blocks.proofs.Valid.{each_between}
use Rattle.validity_blocks.proofs.blocks.valid_plain_four.Goals as goal

pub all_stand-requires-clause-callable : goal.all_stand-requires-clause-callable
all_stand-requires-clause-callable c j inside =
    let four = each_between _ c.requires.1 c.requires.2 j inside in
    (four.1, four.2, four.3)
