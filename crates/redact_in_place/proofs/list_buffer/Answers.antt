-- As much room as the longest list.
use native.Mathlib.Omega.{arith}
use Rattle.pattern.specs.Encoding.{room_for}
use Rattle.redact_in_place.proofs.list_buffer.Goals as goal

pub returns : goal.returns
unfolding room_for
returns c = omega arith
