-- The three flags, added up.
use mathlib.Core.Bool.{◌&&◌}
use native.Mathlib.Omega.{arith}
use Rattle.column_blocks.proofs.ContinuationRun.{flag_small, run-flags}
use Rattle.column_blocks.proofs.runs.continuation_run.Goals as goal

pub overflow_add-result : goal.overflow_add-result
overflow_add-result c =
    omega (arith, flag_small c.continues-one.result, flag_small (c.continues-one.result && c.continues.result))

pub overflow_add-result-2 : goal.overflow_add-result-2
overflow_add-result-2 c =
    omega (arith, flag_small c.continues-one.result, flag_small (c.continues-one.result && c.continues.result), flag_small (c.continues-one.result && c.continues.result && c.continues-2.result))

pub returns : goal.returns
returns c = run-flags _ _ _ _ _ _ c.continues-one.ensures c.continues.ensures c.continues-2.ensures
