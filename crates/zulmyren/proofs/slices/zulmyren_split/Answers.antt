-- The behaviour by its number; the numbers of the call below, and its buffers.
use Rattle.zulmyren.proofs.Calls.{split-call}
use Rattle.zulmyren.proofs.slices.zulmyren_split.Goals as goal

pub returns : goal.returns
returns c =
    split-call c.args.behavior c.args.drop_empty c.behavior_of.ensures c.empty_of.ensures c.split.ensures c.from.ensures
