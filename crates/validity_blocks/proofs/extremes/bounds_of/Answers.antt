use Rattle.std.proofs.Common.{refl}
use Rattle.validity_blocks.specs.Extremes.{from_lead}
use Rattle.validity_blocks.proofs.Largest.{largest-none, largest-more, largest-done}
use Rattle.validity_blocks.proofs.LeastLead.{least-none, least_more, least-done}
use Rattle.validity_blocks.proofs.extremes.bounds_of.Goals as goal

pub loop-b-init : goal.loop-b-init
loop-b-init c = (largest-none, least-none)

pub loop-b-preserved : goal.loop-b-preserved
unfolding from_lead
loop-b-preserved c =
    let inv = c.loop-b.invariant in
    (largest-more inv.0 c.loop-b-test.true c.max-most.ensures, least_more inv.1 c.loop-b-test.true refl c.min-least.ensures)

pub returns : goal.returns
returns c =
    (largest-done c.loop-b.invariant.0 c.loop-b-test.false, least-done c.loop-b.invariant.1 c.loop-b-test.false)
