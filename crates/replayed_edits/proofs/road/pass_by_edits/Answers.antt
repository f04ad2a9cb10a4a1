-- What the case holds is passed.
use Rattle.replayed_edits.proofs.Replaying.{by-edits-lent}
use Rattle.replayed_edits.proofs.road.pass_by_edits.Goals as goal

pub returns : goal.returns
returns c =
    by-edits-lent _ _ _ c.field.ensures c.field-2.ensures c.value.ensures c.field-3.ensures c.field-4.ensures
    c.zulmyren_replace_by_edits.ensures
