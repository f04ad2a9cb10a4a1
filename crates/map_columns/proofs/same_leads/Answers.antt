use Rattle.map_columns.proofs.Alike.{none_alike, one_alike, all_alike}
use Rattle.map_columns.proofs.same_leads.Goals as goal

pub loop-i-init : goal.loop-i-init
loop-i-init c = none_alike

pub loop-i-preserved : goal.loop-i-preserved
loop-i-preserved c = one_alike c.loop-i.invariant c.loop-i-test.true c.continues.ensures c.continues-in-loop-i.ensures

pub returns : goal.returns
returns c = all_alike c.loop-i.invariant c.loop-i-test.false
