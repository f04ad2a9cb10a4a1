-- Each turn counts four bytes more.
use Rattle.buffers.specs.Columns.{Filled}
use Rattle.char_counts.specs.Lows.{four_at}
use Rattle.char_counts.proofs.low_bytes.write_fours.Given as goal

abbrev pub invariant-loop-j : goal.invariant-loop-j
invariant-loop-j l = Filled (four_at l.text l.from) l.initial.fours 0 l.j l.fours
