-- By ranges.
use Rattle.code_point_blocks.proofs.Packing.{packed-picked}
use Rattle.code_point_blocks.proofs.packed.Goals as goal

pub returns : goal.returns
returns c = packed-picked _ c.select.ensures c.select-2.ensures
