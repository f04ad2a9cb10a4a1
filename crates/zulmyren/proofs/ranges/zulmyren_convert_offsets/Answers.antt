-- The range by its side, and the numbers of the call below.
use Rattle.note.specs.Notes.{limit}
use Rattle.convert.specs.Converting.{convert_offsets}
use Rattle.zulmyren.proofs.Calls.{range-call}
use Rattle.zulmyren.proofs.ranges.zulmyren_convert_offsets.Goals as goal

pub returns : goal.returns
returns c =
    range-call (convert_offsets limit _) _ _ _ c.side_of.ensures c.range_of-range.ensures c.convert_offsets.ensures c.from.ensures
