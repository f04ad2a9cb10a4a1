-- A text too short, a content or a literal without a byte: no margin; else by the smaller share.
use Prim.Native.Nat.{◌*◌}
use native.Mathlib.Nat.{div-le_self}
use native.Mathlib.Omega.{arith}
use Rattle.redact.proofs.Blanks.{no-margin, margin-share}
use Rattle.redact.proofs.safe_margin.Goals as goal

pub returns-then-size-literal : goal.returns-then-size-literal
returns-then-size-literal c = no-margin _ _ _

pub returns-then-share-eq0 : goal.returns-then-share-eq0
returns-then-share-eq0 c = no-margin _ _ _

pub overflow_add-result-2 : goal.overflow_add-result-2
overflow_add-result-2 c = omega (arith, div-le_self (80 * c.args.literal) c.least_of_two-share.result)

pub returns : goal.returns
returns c = margin-share _ _ _ c.least_of_two-share.ensures (omega arith)
