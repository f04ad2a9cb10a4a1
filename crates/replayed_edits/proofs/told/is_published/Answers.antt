-- Each field by itself.
use Rattle.stored_answers.proofs.Framing.{both}
use Rattle.replayed_edits.proofs.told.is_published.Goals as goal

pub returns : goal.returns
returns c = both (both c.is_number.ensures c.is_size.ensures) c.are_published.ensures
