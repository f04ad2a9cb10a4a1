-- Each field by itself.
use Rattle.stored_answers.proofs.Framing.{both}
use Rattle.replayed_pieces.proofs.told.are_columns.Goals as goal

pub returns : goal.returns
returns c = both (both c.is_number.ensures c.are_offsets.ensures) c.are_offsets-2.ensures
