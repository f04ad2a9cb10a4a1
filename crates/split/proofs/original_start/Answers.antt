-- An empty range is its own number, any other one read.
use Rattle.split.proofs.Joined.{start-empty, start-read}
use Rattle.split.proofs.original_start.Goals as goal

pub returns-then-from-to : goal.returns-then-from-to
returns-then-from-to c = start-empty _ _ _ c.if-from-to.true

pub returns : goal.returns
returns c = start-read _ _ _ c.if-from-to.false
