-- The largest of b1, b2 and b3, counted from 30 on, tells whether a character is pending.
use Rattle.std.proofs.Common.{arith}
use mathlib.Core.Bool.{xor}
use Rattle.utf8.specs.Table.{within}
use Rattle.validity_blocks.proofs.Invalid.{invalid-plain-four}
use Rattle.validity_blocks.proofs.bytes.invalid_plain_four.Goals as goal

pub returns : goal.returns
unfolding within xor
returns c = let pre = c.requires in invalid-plain-four _ pre.0 pre.1 pre.2 (omega arith)
