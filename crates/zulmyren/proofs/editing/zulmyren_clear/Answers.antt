-- The numbers of the call below, and its buffers.
use Rattle.zulmyren.proofs.editing.zulmyren_clear.Goals as goal

pub returns : goal.returns
returns c = record { answer = c.clear.result; told = c.from.ensures; met = c.clear.ensures }
