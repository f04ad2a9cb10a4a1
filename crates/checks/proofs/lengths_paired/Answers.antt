-- The code is the definition.
use mathlib.Core.Path.{refl}
use Rattle.checks.specs.Lengths.{lengths_paired}
use Rattle.checks.proofs.lengths_paired.Goals as goal

pub returns : goal.returns
unfolding lengths_paired
returns c = refl
