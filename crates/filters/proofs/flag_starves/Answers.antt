-- A flag that drops wants none.
use Rattle.filters.proofs.Kept.{wants-dropped, wants-kept}
use Rattle.filters.proofs.flag_starves.Goals as goal

pub returns-then-flag-eq0 : goal.returns-then-flag-eq0
returns-then-flag-eq0 c = wants-dropped _ _ _ c.if-flag-eq0.true

pub returns : goal.returns
returns c = wants-kept _ _ _ c.if-flag-eq0.false
