-- The range's numbers, or the refusal's.
use Rattle.zulmyren.proofs.Calls.{range-found, range-refused}
use Rattle.zulmyren.proofs.answers.OffsetsFromResultRangeRefusal.from.Goals as goal

pub returns-in-Ok : goal.returns-in-Ok
returns-in-Ok c = range-found c.in-Ok.is c.start_of.ensures c.end_of.ensures

pub returns-in-Err : goal.returns-in-Err
returns-in-Err c = range-refused c.in-Err.is c.from.ensures
