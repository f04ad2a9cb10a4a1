-- What the case holds is passed, and what comes back is compared.
use Rattle.replayed_edits.proofs.Replaying.{clear-replayed}
use Rattle.replayed_edits.proofs.whole.clear.Goals as goal

pub returns : goal.returns
returns c =
    clear-replayed _ _ _ c.field.ensures c.field-2.ensures c.value.ensures c.zulmyren_clear-answer.ensures c.is_cleared.ensures
