-- No alignment, or the first one.
use Rattle.edits.proofs.Mapped.{no-head, first_head}
use Rattle.edits.proofs.mapping.has_head.Goals as goal

pub returns-then-starts-eq0 : goal.returns-then-starts-eq0
returns-then-starts-eq0 c = no-head _ _ c.if-starts-eq0.true

pub returns : goal.returns
returns c = first_head _ _ c.requires c.if-starts-eq0.false
