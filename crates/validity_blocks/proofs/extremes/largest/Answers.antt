use Rattle.validity_blocks.proofs.Largest.{largest-none, largest-more, largest-done}
use Rattle.validity_blocks.proofs.extremes.largest.Goals as goal

pub loop-b-init : goal.loop-b-init
loop-b-init c = largest-none

pub loop-b-preserved : goal.loop-b-preserved
loop-b-preserved c = largest-more c.loop-b.invariant c.loop-b-test.true c.max-most.ensures

pub returns : goal.returns
returns c = largest-done c.loop-b.invariant c.loop-b-test.false
