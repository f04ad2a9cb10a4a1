-- Each turn writes one more step.
use Prim.Native.Nat.{◌+◌, ◌-◌}
use lib.ListN.{get_or}
use Rattle.buffers.specs.Columns.{Filled}
use Rattle.column_blocks.specs.ContinuationRun.{continuation_run}
use Rattle.column_blocks.proofs.pairs.count_back.Given as goal

abbrev pub invariant-loop-k : goal.invariant-loop-k
invariant-loop-k l = Filled (λ m. l.low + m + 2 - continuation_run (get_or l.a m 0) (get_or l.b m 0) 0) l.initial.steps 0 l.k l.steps
