-- The passed starts and ends are those of their fields.
use Rattle.stored_answers.proofs.Differences.{offsets-filled}
use Rattle.replayed_pieces.proofs.Replaying.{spans-lent}
use Rattle.replayed_pieces.proofs.pieces.split.Goals as goal

pub returns : goal.returns
returns c =
    spans-lent (offsets-filled _ c.offsets-s.ensures.laid c.zeros-piece_starts.ensures) (offsets-filled _ c.offsets-e.ensures.laid c.zeros-piece_ends.ensures) c.cut_spans.ensures
