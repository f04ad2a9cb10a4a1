-- As much room as the lines take.
use Prim.Native.Nat.{ℕ, ◌*◌}
use mathlib.Core.Path.{sym}
use lib.ListN.{length-replicate}
use Rattle.note.specs.Notes.{limit}
use Rattle.alignment_lines.specs.Lines.{longest_line}
use Rattle.redact_main.proofs.lines.lines_buffer.Goals as goal

pub returns : goal.returns
returns c = sym (length-replicate {0} {A = ℕ} (longest_line * limit) 0)
