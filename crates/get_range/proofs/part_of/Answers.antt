-- Where the plain call accepts, the range lies inside the text that it names.
use Rattle.get_range.proofs.Parts.{part_of-refused, part_of-accepted, accepted-inside}
use Rattle.get_range.proofs.part_of.Goals as goal

pub returns-in-Err : goal.returns-in-Err
returns-in-Err c = part_of-refused _ _ _ _ c.part_verdict.ensures c.in-Err.is

pub slice_bounds-result-count : goal.slice_bounds-result-count
slice_bounds-result-count c =
    (accepted-inside _ _ _ _ c.part_verdict.ensures c.in_default.is c.text_of-text.ensures c.start_of-start.ensures c.end_of-end.ensures).0

pub slice_bounds-result-start : goal.slice_bounds-result-start
slice_bounds-result-start c =
    (accepted-inside _ _ _ _ c.part_verdict.ensures c.in_default.is c.text_of-text.ensures c.start_of-start.ensures c.end_of-end.ensures).0

pub slice_bounds-result-end-2 : goal.slice_bounds-result-end-2
slice_bounds-result-end-2 c =
    (accepted-inside _ _ _ _ c.part_verdict.ensures c.in_default.is c.text_of-text.ensures c.start_of-start.ensures c.end_of-end.ensures).1

pub returns : goal.returns
returns c =
    part_of-accepted _ _ _ _ c.part_verdict.ensures c.in_default.is c.text_of-text.ensures c.start_of-start.ensures c.end_of-end.ensures
