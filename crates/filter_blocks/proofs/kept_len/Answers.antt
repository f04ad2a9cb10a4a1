-- Dropped, or kept.
use Rattle.filter_blocks.proofs.Chars.{size-dropped, size-kept}
use Rattle.filter_blocks.proofs.kept_len.Goals as goal

pub returns-then-flag-eq0 : goal.returns-then-flag-eq0
returns-then-flag-eq0 c = size-dropped _ _ c.if-flag-eq0.true

pub returns : goal.returns
returns c = size-kept _ _ c.if-flag-eq0.false
