-- What the case holds is passed, and what comes back is compared.
use Rattle.replayed_pieces.proofs.Replaying.{split-replayed}
use Rattle.replayed_pieces.proofs.pieces.cut.Goals as goal

pub returns : goal.returns
returns c =
    split-replayed c.field.ensures c.field-2.ensures
    c.value.ensures c.field-3.ensures c.value-2.ensures
    c.value-3.ensures c.zulmyren_split-answer.ensures c.are_pieces.ensures
    c.are_offsets.ensures c.are_offsets-2.ensures
