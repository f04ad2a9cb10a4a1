-- The ranges one after the other.
use Rattle.invisible.specs.Ranges.{controls, in_range}
use Rattle.invisible.proofs.Ranges.{summed, some-summed}
use Rattle.invisible.proofs.is_control.Goals as goal

pub returns : goal.returns
unfolding controls summed in_range
returns c = some-summed _ _ _
