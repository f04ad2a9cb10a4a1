use Rattle.pattern.specs.Placed.{end_stands}
use Rattle.pattern.proofs.Placed.{every-none, every_more, stands_by}
use Rattle.pattern.proofs.blocks.all_stand.Goals as goal

pub loop-k-init : goal.loop-k-init
loop-k-init c = every-none _

pub loop-k-preserved : goal.loop-k-preserved
loop-k-preserved c =
    every_more (end_stands _ _ _) c.loop-k.invariant (stands_by _ _ _ _ c.get_u16_le-end.ensures c.is_char_boundary-ok.ensures)
