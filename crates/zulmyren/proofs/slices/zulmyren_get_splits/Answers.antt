-- What is asked, by numbers and flags; the number of the call below, and its buffers.
use Rattle.zulmyren.proofs.Calls.{splits-call}
use Rattle.zulmyren.proofs.slices.zulmyren_get_splits.Goals as goal

pub returns : goal.returns
returns c =
    splits-call c.args.behavior c.args.of_original c.args.in_chars c.behavior_of.ensures c.side_of.ensures c.unit_of.ensures c.get_splits.ensures c.from.ensures
