-- The two flags, added up.
use mathlib.Core.Bool.{not, ◌||◌}
use native.Mathlib.Omega.{arith}
use Rattle.column_blocks.proofs.ContinuationRun.{flag_small}
use Rattle.column_blocks.proofs.TwoBeside.{begun-flags}
use Rattle.column_blocks.proofs.pairs.begun.Goals as goal

pub overflow_add-result : goal.overflow_add-result
overflow_add-result c =
    let one = not c.continues-one.result in
    omega (arith, flag_small one, flag_small (one || not c.continues.result))

pub returns : goal.returns
returns c = begun-flags _ _ c.continues-one.ensures c.continues.ensures
