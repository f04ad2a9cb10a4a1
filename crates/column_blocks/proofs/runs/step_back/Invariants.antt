-- Each turn writes one more start.
use Prim.Native.Nat.{◌+◌, ◌-◌}
use lib.ListN.{get_or}
use Rattle.buffers.specs.Columns.{Filled}
use Rattle.column_blocks.proofs.runs.step_back.Given as goal

abbrev pub invariant-loop-k : goal.invariant-loop-k
invariant-loop-k l = Filled (λ m. l.i + (m - l.at) - get_or l.counts (m - l.at) 0) l.initial.starts l.at (l.at + l.k) l.starts
