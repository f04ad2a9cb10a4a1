-- The test is the definition.
use mathlib.Core.Path.{refl}
use Rattle.utf8.specs.Scalar.{scalar}
use Rattle.utf8.proofs.is_scalar.Goals as goal

pub returns : goal.returns
unfolding scalar
returns c = refl
