-- What the case holds is passed.
use Rattle.replayed_edits.proofs.Replaying.{replace-lent}
use Rattle.replayed_edits.proofs.matches.replace.Goals as goal

pub returns : goal.returns
returns c =
    replace-lent _ _ _ c.field.ensures c.field-2.ensures c.value.ensures c.field-3.ensures c.field-4.ensures c.zulmyren_replace.ensures
