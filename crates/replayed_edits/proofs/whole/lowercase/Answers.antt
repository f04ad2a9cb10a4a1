-- What the case holds is passed.
use Rattle.zulmyren.specs.Edits.{LowercaseTold}
use Rattle.replayed_edits.proofs.Replaying.{note-lent}
use Rattle.replayed_edits.proofs.whole.lowercase.Goals as goal

pub returns : goal.returns
returns c =
    note-lent _ _ _ c.field.ensures c.field-2.ensures c.value.ensures LowercaseTold c.zulmyren_lowercase.ensures
