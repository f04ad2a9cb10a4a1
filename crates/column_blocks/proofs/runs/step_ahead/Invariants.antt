-- Each turn writes one more end.
use Prim.Native.Nat.{◌+◌, ◌-◌}
use lib.ListN.{get_or}
use Rattle.buffers.specs.Columns.{Filled}
use Rattle.column_blocks.proofs.runs.step_ahead.Given as goal

abbrev pub invariant-loop-k : goal.invariant-loop-k
invariant-loop-k l = Filled (λ m. l.i + (m - l.at) + 1 + get_or l.counts (m - l.at) 0) l.initial.ends l.at (l.at + l.k) l.ends
