-- The range by its side, and the numbers of the call below.
use Rattle.note.specs.Notes.{limit}
use Rattle.get_range.specs.Reading.{get_range}
use Rattle.zulmyren.proofs.Calls.{range-call}
use Rattle.zulmyren.proofs.ranges.zulmyren_get_range.Goals as goal

pub returns : goal.returns
returns c =
    range-call (get_range limit _) _ _ _ c.side_of.ensures c.range_of-range.ensures c.get_range.ensures c.from.ensures
