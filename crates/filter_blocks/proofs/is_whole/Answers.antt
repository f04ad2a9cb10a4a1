-- The test is the definition.
use mathlib.Core.Path.{refl}
use Rattle.filter_blocks.specs.Chosen.{is_whole}
use Rattle.filter_blocks.proofs.is_whole.Goals as goal

pub returns : goal.returns
unfolding is_whole
returns c = refl
