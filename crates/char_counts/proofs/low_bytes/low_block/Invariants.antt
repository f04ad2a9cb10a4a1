-- Each turn tells one low byte more by that of the 16th byte before it.
use Rattle.std.proofs.Common.{◌+◌}
use Rattle.char_counts.specs.Lows.{LowsTo}
use Rattle.char_counts.proofs.low_bytes.low_block.Given as goal

abbrev pub invariant-loop-j : goal.invariant-loop-j
invariant-loop-j l = LowsTo l.text l.initial.lows (l.i + 16 + l.j) l.lows
