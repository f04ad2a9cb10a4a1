-- As the definition has it.
use mathlib.Core.Path.{refl}
use Rattle.spans.specs.Packing.{span_start}
use Rattle.spans.proofs.span_start.Goals as goal

pub returns : goal.returns
unfolding span_start
returns c = refl
