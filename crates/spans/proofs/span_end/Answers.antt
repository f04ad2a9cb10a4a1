-- As the definition has it.
use mathlib.Core.Path.{refl}
use Rattle.spans.specs.Packing.{span_end}
use Rattle.spans.proofs.span_end.Goals as goal

pub returns : goal.returns
unfolding span_end
returns c = refl
