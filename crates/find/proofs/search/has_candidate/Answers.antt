use Rattle.find.proofs.Candidates.{apart_none, apart_more}
use Rattle.find.proofs.search.has_candidate.Goals as goal

pub loop-j-init : goal.loop-j-init
loop-j-init c = apart_none _ _ _ _

pub loop-j-preserved : goal.loop-j-preserved
loop-j-preserved c = apart_more _ _ _ _ _ c.loop-j.invariant
