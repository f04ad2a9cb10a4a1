-- A text that fits is enough for a content no longer than the literal; else the size that was measured says it.
use native.Mathlib.Omega.{arith}
use Rattle.redact.proofs.BlankedSize.{text-enough, measured-enough}
use Rattle.redact.proofs.result_fits.Goals as goal

pub returns-then-text-room : goal.returns-then-text-room
returns-then-text-room c = text-enough _ _ _ (omega arith) _ (omega arith)

pub returns : goal.returns
returns c = measured-enough _ _ c.blanked_size.ensures (omega arith)
