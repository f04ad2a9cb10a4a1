-- The numbers of the call below, and its buffers.
use Rattle.zulmyren.proofs.editing.zulmyren_prepend.Goals as goal

pub returns : goal.returns
returns c = record { answer = c.prepend.result; told = c.from.ensures; met = c.prepend.ensures }
