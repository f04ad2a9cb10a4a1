-- What the case holds is passed.
use Rattle.replayed_edits.proofs.Replaying.{redact-lent}
use Rattle.replayed_edits.proofs.matches.redact.Goals as goal

pub returns : goal.returns
returns c = redact-lent _ c.field.ensures c.field-2.ensures c.field-3.ensures c.zulmyren_redact-answer.ensures
