-- The numbers of the call below, and its buffers.
use Rattle.zulmyren.proofs.editing.zulmyren_filter.Goals as goal

pub returns : goal.returns
returns c = record { answer = c.filter.result; told = c.from.ensures; met = c.filter.ensures }
