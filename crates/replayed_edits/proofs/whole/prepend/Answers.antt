-- What the case holds is passed.
use Rattle.zulmyren.specs.Edits.{PrependTold}
use Rattle.replayed_edits.proofs.Replaying.{whole-lent}
use Rattle.replayed_edits.proofs.whole.prepend.Goals as goal

pub returns : goal.returns
returns c =
    whole-lent _ _ _ c.field.ensures c.field-2.ensures c.value.ensures PrependTold c.field-prepended.ensures c.zulmyren_prepend.ensures
