use Rattle.boundaries.specs.Spanning.{leads_below}
use Rattle.boundaries.proofs.Monotone.{at-end}
use Rattle.boundaries.proofs.Spanning.{leads-none, leads-more}
use Rattle.boundaries.proofs.all_lead.Goals as goal

pub loop-b-init : goal.loop-b-init
loop-b-init c = leads-none _

pub loop-b-preserved : goal.loop-b-preserved
loop-b-preserved c = leads-more _ _ c.loop-b.invariant c.continues.ensures

pub returns : goal.returns
returns c = at-end (leads_below _) _ _ _ c.loop-b.auto.b-index-end c.loop-b-test.false c.loop-b.invariant
