-- What the case holds is passed, and what comes back is compared.
use Rattle.replayed_pieces.proofs.Replaying.{splits-replayed}
use Rattle.replayed_pieces.proofs.pieces.listed.Goals as goal

pub returns : goal.returns
returns c =
    splits-replayed c.field.ensures
    c.field-2.ensures c.value.ensures
    c.field-3.ensures c.value-2.ensures c.value-3.ensures
    c.value-4.ensures c.zulmyren_get_splits-answer.ensures c.are_splits.ensures
