-- Each field by itself.
use Rattle.stored_answers.proofs.Framing.{both}
use Rattle.replayed_edits.proofs.told.is_cleared.Goals as goal

pub returns : goal.returns
returns c = both (both (both c.is_number.ensures c.is_size.ensures) c.is_size-2.ensures) c.are_published.ensures
