-- The range by its side, and the number of the call below.
use Rattle.zulmyren.proofs.Calls.{part-call}
use Rattle.zulmyren.proofs.ranges.zulmyren_part_verdict.Goals as goal

pub returns : goal.returns
returns c =
    part-call _ _ c.args.of_original _ _ c.side_of.ensures c.range_of-range.ensures c.part_verdict.ensures c.answer.ensures
