-- What the case holds is passed.
use Rattle.replayed_edits.proofs.Replaying.{script-lent}
use Rattle.replayed_edits.proofs.scripts.transform.Goals as goal

pub returns : goal.returns
returns c =
    script-lent _ _ _ c.field.ensures c.field-2.ensures c.value.ensures c.field-3.ensures c.value-2.ensures c.zulmyren_transform.ensures
