use Rattle.pattern.specs.Placed.{placed_byte}
use Rattle.pattern.proofs.Placed.{every-none, every_more}
use Rattle.pattern.proofs.blocks.all_placed.Goals as goal

pub loop-j-init : goal.loop-j-init
loop-j-init c = every-none _

pub loop-j-preserved : goal.loop-j-preserved
unfolding placed_byte
loop-j-preserved c =
    every_more (placed_byte c.args.list.now c.args.i) c.loop-j.invariant c.placed_at-ok.ensures
