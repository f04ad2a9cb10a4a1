-- Each field by itself.
use Rattle.stored_answers.proofs.Framing.{both}
use Rattle.replayed_pieces.proofs.told.are_pieces.Goals as goal

pub returns : goal.returns
returns c =
    let numbers = both (both c.is_number.ensures c.is_size.ensures) c.is_size-2.ensures in
    let spans = both (both numbers c.are_offsets.ensures) c.are_offsets-2.ensures in
    both (both spans c.are_numbers.ensures) c.are_offsets-3.ensures
