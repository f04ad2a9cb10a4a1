-- As much room as the places take.
use Prim.Native.Nat.{ℕ, ◌+◌, ◌*◌}
use mathlib.Core.Path.{sym}
use lib.ListN.{length-replicate}
use Rattle.pattern.specs.Encoding.{room_for}
use Rattle.piece_lines.specs.Input.{longest}
use Rattle.piece_lines.proofs.list_buffer.Goals as goal

pub returns : goal.returns
unfolding room_for
returns c = sym (length-replicate {0} {A = ℕ} (room_for (2 * longest + 1)) 0)
