-- As much room as the limit.
use Prim.Native.Nat.{ℕ}
use mathlib.Core.Path.{sym}
use lib.ListN.{length-replicate}
use Rattle.note.specs.Notes.{limit}
use Rattle.redact_in_place.proofs.text_buffer.Goals as goal

pub returns : goal.returns
returns c = sym (length-replicate {0} {A = ℕ} limit 0)
