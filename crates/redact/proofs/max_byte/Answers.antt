-- No byte is larger than FF.
use native.Mathlib.Omega.{arith}
use Rattle.redact.proofs.Blanks.{bytes_most}
use Rattle.redact.proofs.max_byte.Goals as goal

pub returns-then-largest-ge240 : goal.returns-then-largest-ge240
returns-then-largest-ge240 c = bytes_most _ (λ k. omega (arith, c.type_inv.text k))

pub returns : goal.returns
returns c = omega (arith, c.largest-2.ensures)
