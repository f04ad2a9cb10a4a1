-- The range by its side, then the numbers of the call below, and its buffers.
use Rattle.zulmyren.proofs.Edited.{range-edit}
use Rattle.zulmyren.proofs.editing.zulmyren_transform_range.Goals as goal

pub returns : goal.returns
returns c =
    range-edit _ c.args.of_original c.args.start c.args.end _ _ c.side_of.ensures c.range_of-range.ensures c.transform_range.ensures c.from.ensures
