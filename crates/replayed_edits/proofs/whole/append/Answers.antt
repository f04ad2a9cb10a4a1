-- What the case holds is passed.
use Rattle.zulmyren.specs.Edits.{AppendTold}
use Rattle.replayed_edits.proofs.Replaying.{whole-lent}
use Rattle.replayed_edits.proofs.whole.append.Goals as goal

pub returns : goal.returns
returns c =
    whole-lent _ _ _ c.field.ensures c.field-2.ensures c.value.ensures AppendTold c.field-appended.ensures c.zulmyren_append.ensures
