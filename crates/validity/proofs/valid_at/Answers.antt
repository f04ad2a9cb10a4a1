-- The byte and the three before it are read one by one.
use Rattle.validity.proofs.ValidAt.{valid-padded}
use Rattle.validity.proofs.valid_at.Goals as goal

pub returns : goal.returns
returns c =
    valid-padded _ _ c.padded_at.ensures c.padded_at-2.ensures c.padded_at-3.ensures c.padded_at-4.ensures c.invalid.ensures
