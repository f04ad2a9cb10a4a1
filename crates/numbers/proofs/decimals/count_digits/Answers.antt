use Rattle.numbers.proofs.Decimal.{one-counted, all-counted}
use native.Mathlib.Omega.{arith}
use Rattle.numbers.proofs.decimals.count_digits.Goals as goal

pub loop-left-preserved : goal.loop-left-preserved
loop-left-preserved c = one-counted c.loop-left.invariant (omega arith)

pub returns : goal.returns
returns c = all-counted c.loop-left.invariant (omega arith)
