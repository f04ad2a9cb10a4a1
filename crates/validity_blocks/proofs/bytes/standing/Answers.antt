-- The highest bit of the difference, or of its complement, is the flag.
use Rattle.std.proofs.Common.{arith}
use Rattle.utf8.specs.Table.{within}
use Rattle.validity_blocks.proofs.Invalid.{standing-far, standing-near}
use Rattle.validity_blocks.proofs.bytes.standing.Goals as goal

pub returns-then-b0 : goal.returns-then-b0
unfolding within
returns-then-b0 c = standing-far _ c.args.b0 c.saturating_sub-far.ensures c.if-b0.true

pub overflow_sub-result : goal.overflow_sub-result
unfolding within
overflow_sub-result c = omega arith

pub returns : goal.returns
unfolding within
returns c = standing-near _ c.args.b0 c.saturating_sub-far.ensures (omega arith) c.if-b0.false
