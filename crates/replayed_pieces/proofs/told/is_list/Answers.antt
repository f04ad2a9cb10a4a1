-- Each field by itself.
use Rattle.stored_answers.proofs.Framing.{both}
use Rattle.replayed_pieces.proofs.told.is_list.Goals as goal

pub returns : goal.returns
returns c = both (both c.is_number.ensures c.is_size.ensures) c.is_text.ensures
