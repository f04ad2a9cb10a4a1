-- The two bytes' value, wrapped.
use Rattle.pattern.specs.Entries.{position_at}
use Rattle.pattern.proofs.position_at.Goals as goal

pub returns : goal.returns
unfolding position_at
returns c = λ i. record { 0 = c.get_u16_le.ensures i }
