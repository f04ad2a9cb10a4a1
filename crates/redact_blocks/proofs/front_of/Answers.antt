-- The copied bytes are the literal's front.
use mathlib.Core.Path.{refl}
use Rattle.redact_blocks.proofs.Front.{front-copied}
use Rattle.redact_blocks.proofs.front_of.Goals as goal

pub returns : goal.returns
returns c = front-copied _ _ c.least_of_two-front_len.ensures refl c.copy.ensures
