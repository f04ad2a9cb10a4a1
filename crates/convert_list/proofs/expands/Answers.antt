-- The code's tests are the definition's.
use mathlib.Core.Path.{refl}
use Rattle.convert_list.specs.TwoReads.{expands}
use Rattle.convert_list.proofs.expands.Goals as goal

pub returns : goal.returns
unfolding expands
returns c = refl
