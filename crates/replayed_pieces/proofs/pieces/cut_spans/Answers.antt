-- The passed shifts and lengths are those of their fields.
use Rattle.stored_answers.proofs.Differences.{numbers-filled, offsets-filled}
use Rattle.replayed_pieces.proofs.Replaying.{sizes-lent}
use Rattle.replayed_pieces.proofs.pieces.cut_spans.Goals as goal

pub returns : goal.returns
returns c =
    sizes-lent (numbers-filled _ c.numbers-s.ensures.laid) (offsets-filled _ c.offsets-l.ensures.laid c.zeros-lengths.ensures) c.cut_beside.ensures
