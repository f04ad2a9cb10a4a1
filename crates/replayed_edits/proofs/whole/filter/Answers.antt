-- What the case holds is passed.
use Rattle.zulmyren.specs.Edits.{FilterTold}
use Rattle.replayed_edits.proofs.Replaying.{whole-lent}
use Rattle.replayed_edits.proofs.whole.filter.Goals as goal

pub returns : goal.returns
returns c =
    whole-lent _ _ _ c.field.ensures c.field-2.ensures c.value.ensures FilterTold c.field-flags.ensures c.zulmyren_filter.ensures
