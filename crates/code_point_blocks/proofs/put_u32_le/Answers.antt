use Rattle.code_point_blocks.proofs.Packing.{word-stored}
use Rattle.code_point_blocks.proofs.put_u32_le.Goals as goal

pub returns : goal.returns
returns c = word-stored _ _ _ c.requires c.put_u16_le.ensures c.put_u16_le-2.ensures
