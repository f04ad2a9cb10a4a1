use native.Mathlib.Omega.{arith}
use Rattle.find.proofs.Candidates.{no-candidate, next-index, all-indices}
use Rattle.find.proofs.search.first_candidate.Goals as goal

pub loop-j-init : goal.loop-j-init
loop-j-init c = (no-candidate, omega arith)

pub loop-j-preserved : goal.loop-j-preserved
loop-j-preserved c =
    next-index c.loop-j.invariant.0 (omega arith) c.loop-j.invariant.1 c.max-left.ensures c.select.ensures

pub returns : goal.returns
returns c = all-indices c.loop-j.invariant.0 (omega arith)
