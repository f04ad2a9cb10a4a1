-- The numbers of the call below, and its buffers.
use Rattle.zulmyren.proofs.editing.zulmyren_append.Goals as goal

pub returns : goal.returns
returns c = record { answer = c.append.result; told = c.from.ensures; met = c.append.ensures }
