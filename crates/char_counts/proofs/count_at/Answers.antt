-- The mark, and how far the low byte is after the mark's.
use Rattle.std.proofs.Common.{arith}
use Rattle.char_counts.proofs.Counts.{looked-up}
use Rattle.char_counts.proofs.count_at.Goals as goal

pub returns : goal.returns
returns c = looked-up _ _ _ (omega (arith, c.type_inv.lows c.args.b)) (omega arith) (omega arith)
