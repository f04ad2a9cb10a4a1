-- What the case holds is passed, and what comes back is compared.
use Rattle.replayed_pieces.proofs.Replaying.{slice-replayed}
use Rattle.replayed_pieces.proofs.slices.sliced.Goals as goal

pub returns : goal.returns
returns c =
    slice-replayed c.field.ensures
    c.field-2.ensures
    c.value.ensures c.value-2.ensures
    c.value-3.ensures c.value-4.ensures c.zulmyren_slice-answer.ensures
    c.is_slice.ensures c.are_offsets.ensures c.are_offsets-2.ensures
