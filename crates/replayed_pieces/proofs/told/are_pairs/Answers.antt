-- Each field by itself.
use Rattle.stored_answers.proofs.Framing.{both}
use Rattle.replayed_pieces.proofs.told.are_pairs.Goals as goal

pub returns : goal.returns
returns c =
    both (both (both c.is_number.ensures c.is_text.ensures) c.are_numbers.ensures) c.are_numbers-2.ensures
