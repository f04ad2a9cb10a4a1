-- The number, or the room where that is less.
use Rattle.std.proofs.Common.{arith}
use Rattle.replayed_edits.proofs.road.scratch_len.Goals as goal

pub returns : goal.returns
returns c = omega (arith, c.min.ensures, c.value.ensures)
