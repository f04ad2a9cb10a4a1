-- The note and the pairs, judged together.
use Rattle.note.proofs.FirstMet.{earlier-of}
use Rattle.redact_all.proofs.check_inputs.Goals as goal

pub returns : goal.returns
returns c = earlier-of _ _ c.check_note-noted.ensures c.check_words.ensures c.earlier.ensures
