-- Each field by itself.
use Rattle.stored_answers.proofs.Framing.{both}
use Rattle.replayed_pieces.proofs.told.is_slice.Goals as goal

pub returns : goal.returns
returns c =
    both
    (both (both (both (both c.is_number.ensures c.is_number-2.ensures) c.is_number-3.ensures) c.is_number-4.ensures) c.is_number-5.ensures)
    c.is_number-6.ensures
