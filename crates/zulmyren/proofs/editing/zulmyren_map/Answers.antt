-- The numbers of the call below, and its buffers.
use Rattle.zulmyren.proofs.editing.zulmyren_map.Goals as goal

pub returns : goal.returns
returns c = record { answer = c.map.result; told = c.from.ensures; met = c.map.ensures }
