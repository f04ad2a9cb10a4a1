-- An empty range is its own number, any other one read.
use Rattle.split.proofs.Joined.{end_empty, end_read}
use Rattle.split.proofs.original_end.Goals as goal

pub returns-then-from-to : goal.returns-then-from-to
returns-then-from-to c = end_empty _ _ _ c.if-from-to.true

pub returns : goal.returns
returns c = end_read _ _ _ c.if-from-to.false
