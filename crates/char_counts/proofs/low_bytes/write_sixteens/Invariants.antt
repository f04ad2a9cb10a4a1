-- Each turn adds four counts.
use Rattle.buffers.specs.Columns.{Filled}
use Rattle.char_counts.specs.Lows.{sixteen_at}
use Rattle.char_counts.proofs.low_bytes.write_sixteens.Given as goal

abbrev pub invariant-loop-j : goal.invariant-loop-j
invariant-loop-j l = Filled (sixteen_at l.fours) l.initial.sixteens 0 l.j l.sixteens
