use native.Mathlib.Omega.{arith}
use Rattle.piece_lines.proofs.Scanning.{none-scanned, one-scanned, all-scanned}
use Rattle.piece_lines.proofs.input.scan.Goals as goal

pub loop-byte-init : goal.loop-byte-init
loop-byte-init c = none-scanned

pub loop-byte-preserved : goal.loop-byte-preserved
loop-byte-preserved c = one-scanned c.loop-byte.invariant (omega arith) c.step-so_far.ensures

pub returns : goal.returns
returns c = all-scanned c.loop-byte.invariant (omega arith)
