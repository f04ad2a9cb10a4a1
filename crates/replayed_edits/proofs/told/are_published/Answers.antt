-- Each field by itself.
use Rattle.stored_answers.proofs.Framing.{both}
use Rattle.replayed_edits.proofs.told.are_published.Goals as goal

pub returns : goal.returns
returns c = both (both c.is_text.ensures c.are_offsets.ensures) c.are_offsets-2.ensures
