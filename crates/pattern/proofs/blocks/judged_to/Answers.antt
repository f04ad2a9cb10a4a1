-- The end of the last place is read.
use Rattle.pattern.proofs.Placed.{to-judged}
use Rattle.pattern.proofs.blocks.judged_to.Goals as goal

pub returns : goal.returns
returns c = to-judged _ c.get_u16_le.ensures
