-- The counts step ahead to where the characters end, and stay within the limit.
use Prim.Native.Nat.{◌+◌}
use mathlib.Core.Path.{refl}
use native.Mathlib.Omega.{arith}
use Rattle.column_blocks.proofs.ContinuationRun.{counts-small, block-ends}
use Rattle.column_blocks.proofs.runs.ends_block.Goals as goal

pub step_ahead-requires : goal.step_ahead-requires
step_ahead-requires c =
    let filled = c.count_runs.ensures in record { counts_in_bounds = (omega (arith, filled.same), omega (arith, filled.same)); by_index = λ k. omega (arith, counts-small c.args.text.now (c.args.i + 1) (c.args.i + 2) (c.args.i + 3) _ _ filled k) }

pub returns : goal.returns
returns c =
    block-ends _ _ _ _ _ _ _ _ c.requires.text_value.0 (omega arith) refl c.count_runs.ensures c.step_ahead.ensures
