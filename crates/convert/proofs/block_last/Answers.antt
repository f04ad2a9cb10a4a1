-- Where fewer than 64 are left, or a test on the last of 64 fails, the block is one alignment.
use Prim.Native.Nat.{◌+◌}
use mathlib.Core.Path.{◌∙◌, sym}
use mathlib.Core.Logic.{inr}
use native.Mathlib.Omega.{arith}
use Rattle.convert.proofs.Walked.{single-block}
use Rattle.convert.proofs.block_last.Goals as goal

pub returns-then-ends-i-lt64 : goal.returns-then-ends-i-lt64
returns-then-ends-i-lt64 c = single-block (omega arith) (omega arith)

pub overflow_cast-ends : goal.overflow_cast-ends
overflow_cast-ends c = omega (arith, c.type_inv.ends (c.args.i + 63))

pub returns-then-to-ends : goal.returns-then-to-ends
returns-then-to-ends c = single-block (omega arith) (omega arith)

pub returns-then-not-settled : goal.returns-then-not-settled
returns-then-not-settled c = single-block (omega arith) (omega arith)

pub returns : goal.returns
returns c =
    record { on = omega arith; inside = omega arith; walks = omega arith; single_or_settled = inr (sym c.settled.ensures ∙ c.if-not-settled.false) }
