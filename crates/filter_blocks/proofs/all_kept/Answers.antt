use Rattle.filter_blocks.proofs.Whole.{none-keeping, one-keeping, all-keeping}
use Rattle.filter_blocks.proofs.all_kept.Goals as goal

pub loop-flag-init : goal.loop-flag-init
loop-flag-init c = none-keeping

pub loop-flag-preserved : goal.loop-flag-preserved
loop-flag-preserved c = one-keeping c.loop-flag.invariant c.loop-flag-test.true

pub returns : goal.returns
returns c = all-keeping c.loop-flag.invariant c.loop-flag-test.false
