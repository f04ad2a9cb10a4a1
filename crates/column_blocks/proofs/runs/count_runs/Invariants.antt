-- Each turn writes one more count.
use Rattle.buffers.specs.Columns.{Filled}
use Rattle.column_blocks.specs.ContinuationRun.{run_at}
use Rattle.column_blocks.proofs.runs.count_runs.Given as goal

abbrev pub invariant-loop-j : goal.invariant-loop-j
invariant-loop-j l = Filled (run_at l.text l.a l.b l.c) l.initial.counts 0 l.j l.counts
