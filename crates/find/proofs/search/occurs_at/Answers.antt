-- The first byte decides, or the comparison does.
use native.Mathlib.Omega.{arith}
use Rattle.find.specs.Matching.{occurs_at}
use Rattle.find.proofs.Occurs.{occurs-not}
use Rattle.find.proofs.search.occurs_at.Goals as goal

pub returns-then-text-p : goal.returns-then-text-p
returns-then-text-p c = occurs-not _ _ _ (omega arith) c.if-text-p.true

pub returns : goal.returns
unfolding occurs_at
returns c = c.same.ensures
