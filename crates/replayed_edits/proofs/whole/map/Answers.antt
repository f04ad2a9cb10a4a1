-- What the case holds is passed.
use Rattle.stored_answers.proofs.Differences.{numbers-filled}
use Rattle.zulmyren.specs.Edits.{MapTold}
use Rattle.replayed_edits.proofs.Replaying.{whole-lent}
use Rattle.replayed_edits.proofs.whole.map.Goals as goal

pub returns : goal.returns
returns c =
    whole-lent _ _ _ c.field.ensures c.field-2.ensures c.value.ensures MapTold (numbers-filled _ c.numbers-n.ensures.laid) c.zulmyren_map.ensures
