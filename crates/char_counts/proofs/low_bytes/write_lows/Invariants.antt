-- The first low bytes one after the other, then blocks, then what is left.
use Rattle.std.proofs.Common.{◌+◌, ◌*◌}
use Rattle.char_counts.specs.Lows.{LowsTo}
use Rattle.char_counts.proofs.low_bytes.write_lows.Given as goal

abbrev pub invariant-loop-block : goal.invariant-loop-block
invariant-loop-block l = LowsTo l.text l.initial.lows (l.block * 128 + 16) l.lows
