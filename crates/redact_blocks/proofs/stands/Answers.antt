-- Where the literal fits, the call says it; else it does not stand.
use native.Mathlib.Omega.{arith}
use Rattle.redact_blocks.proofs.Blanks.{stands-not}
use Rattle.redact_blocks.proofs.stands.Goals as goal

pub returns-then-text-p : goal.returns-then-text-p
returns-then-text-p c = stands-not _ _ _ (omega arith) (omega arith) (omega arith)
