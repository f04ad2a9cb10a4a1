-- The numbers of the call below, and its buffers.
use Rattle.zulmyren.proofs.editing.zulmyren_transform.Goals as goal

pub returns : goal.returns
returns c = record { answer = c.transform.result; told = c.from.ensures; met = c.transform.ensures }
