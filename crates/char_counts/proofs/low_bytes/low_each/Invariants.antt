-- Each turn writes one low byte more.
use Rattle.char_counts.specs.Lows.{LowsTo}
use Rattle.char_counts.proofs.low_bytes.low_each.Given as goal

abbrev pub invariant-loop-i : goal.invariant-loop-i
invariant-loop-i l = LowsTo l.text l.initial.lows l.i l.lows
