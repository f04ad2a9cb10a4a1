-- The tests are the definition's, in its order.
use Rattle.checks.proofs.Lengths.{over-original, over-normalized, over-shift}
use Rattle.checks.proofs.lengths_fit.Goals as goal

pub returns-then-original-gt-LIMIT : goal.returns-then-original-gt-LIMIT
returns-then-original-gt-LIMIT c = over-original _ _ _ _ c.if-original-gt-LIMIT.true

pub returns-then-normalized-gt-LIMIT : goal.returns-then-normalized-gt-LIMIT
returns-then-normalized-gt-LIMIT c = over-normalized _ _ _ _ c.if-original-gt-LIMIT.false c.if-normalized-gt-LIMIT.true

pub returns : goal.returns
returns c = over-shift _ _ _ _ c.if-original-gt-LIMIT.false c.if-normalized-gt-LIMIT.false
