-- The code's test is the definition's.
use mathlib.Core.Path.{refl}
use Rattle.utf8.specs.Formed.{continues}
use Rattle.utf8.specs.Table.{within}
use Rattle.utf8.proofs.continues.Goals as goal

pub returns : goal.returns
unfolding continues within
returns c = refl
