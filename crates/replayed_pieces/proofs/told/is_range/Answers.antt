-- Each field by itself.
use Rattle.stored_answers.proofs.Framing.{both}
use Rattle.replayed_pieces.proofs.told.is_range.Goals as goal

pub returns : goal.returns
returns c = both (both c.is_number.ensures c.is_number-2.ensures) c.is_number-3.ensures
