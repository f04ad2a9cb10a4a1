-- The ranges one after the other.
use Rattle.invisible.specs.Ranges.{spaces, in_range}
use Rattle.invisible.proofs.Ranges.{summed, some-summed}
use Rattle.invisible.proofs.is_space.Goals as goal

pub returns : goal.returns
unfolding spaces summed in_range
returns c = some-summed _ _ _
