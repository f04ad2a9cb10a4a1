-- The three kinds.
use Rattle.invisible.proofs.Ranges.{any-invisible}
use Rattle.invisible.proofs.is_invisible.Goals as goal

pub returns : goal.returns
returns c = any-invisible _ c.is_control.ensures c.is_space.ensures c.is_ignorable.ensures
