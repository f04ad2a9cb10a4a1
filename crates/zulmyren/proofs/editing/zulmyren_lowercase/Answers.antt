-- The numbers of the call below, and its buffers.
use Rattle.zulmyren.proofs.editing.zulmyren_lowercase.Goals as goal

pub returns : goal.returns
returns c = record { answer = c.lowercase.result; told = c.from.ensures; met = c.lowercase.ensures }
