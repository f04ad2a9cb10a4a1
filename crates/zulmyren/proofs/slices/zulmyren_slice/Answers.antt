-- The range by its side; the numbers of the call below, and its buffers.
use Rattle.zulmyren.proofs.Calls.{slice-call}
use Rattle.zulmyren.proofs.slices.zulmyren_slice.Goals as goal

pub returns : goal.returns
returns c =
    slice-call c.args.of_original c.args.start c.args.end
    c.side_of.ensures
    c.range_of-range.ensures
    c.slice.ensures c.from.ensures
