-- The counts are small enough to step back by, and step back to where the characters begin.
use Prim.Native.Nat.{◌-◌}
use mathlib.Core.Path.{refl}
use native.Mathlib.Omega.{arith}
use Rattle.column_blocks.proofs.ContinuationRun.{counts-small, block-starts}
use Rattle.column_blocks.proofs.runs.starts_block.Goals as goal

pub step_back-requires : goal.step_back-requires
step_back-requires c =
    let filled = c.count_runs.ensures in record { counts_in_bounds = (omega (arith, filled.same), omega (arith, filled.same)); by_index = λ k. omega (arith, counts-small c.args.text.now c.args.i (c.args.i - 1) (c.args.i - 2) _ _ filled k) }

pub returns : goal.returns
returns c =
    block-starts _ _ _ _ _ _ _ _ c.requires.text_value.0 (omega arith) (omega arith) refl c.count_runs.ensures c.step_back.ensures
