-- The code is the definition.
use mathlib.Core.Path.{refl}
use Rattle.pattern.specs.Encoding.{room_for}
use Rattle.pattern.proofs.writing.room_for.Goals as goal

pub returns : goal.returns
unfolding room_for
returns c = refl
