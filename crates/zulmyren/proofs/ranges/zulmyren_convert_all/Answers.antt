-- The number of the call below, and its buffers.
use Rattle.zulmyren.proofs.Calls.{list-call}
use Rattle.zulmyren.proofs.ranges.zulmyren_convert_all.Goals as goal

pub returns : goal.returns
returns c =
    list-call c.args.of_original
    c.side_of-side.ensures c.convert_list.ensures c.answer.ensures
