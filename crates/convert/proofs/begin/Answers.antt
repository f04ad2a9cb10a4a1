-- The tests are the definition's.
use Rattle.convert.proofs.Walked.{begun-before, begun-narrow, begun-wide}
use native.Mathlib.Omega.{arith}
use Rattle.convert.proofs.begin.Goals as goal

pub returns-then-start-from : goal.returns-then-start-from
returns-then-start-from c = begun-before _ _ _ _ (omega arith)

pub returns-then-start-end : goal.returns-then-start-end
returns-then-start-end c = begun-narrow _ _ _ _ (omega arith) (omega arith)

pub returns : goal.returns
returns c = begun-wide _ _ _ _ (omega arith) (λ e. omega arith)
