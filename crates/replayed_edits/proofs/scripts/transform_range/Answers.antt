-- What the case holds is passed.
use Rattle.replayed_edits.proofs.Replaying.{range-lent}
use Rattle.replayed_edits.proofs.scripts.transform_range.Goals as goal

pub returns : goal.returns
returns c =
    range-lent _ _ _ c.field.ensures
    c.field-2.ensures c.value.ensures
    c.value-2.ensures c.value-3.ensures
    c.value-4.ensures c.field-3.ensures c.value-5.ensures
    c.zulmyren_transform_range.ensures
