-- The passed columns are those of their fields.
use Rattle.stored_answers.proofs.Differences.{numbers-filled}
use Rattle.replayed_pieces.proofs.Replaying.{splits-lent}
use Rattle.replayed_pieces.proofs.pieces.get_splits.Goals as goal

pub returns : goal.returns
returns c =
    splits-lent (numbers-filled _ c.numbers-s.ensures.laid) (numbers-filled _ c.numbers-e.ensures.laid) c.listed.ensures
