-- The passed alignments are those of their fields.
use Rattle.stored_answers.proofs.Differences.{offsets-filled}
use Rattle.replayed_pieces.proofs.Replaying.{alignments-lent}
use Rattle.replayed_pieces.proofs.pieces.cut_beside.Goals as goal

pub returns : goal.returns
returns c =
    alignments-lent (offsets-filled _ c.offsets-s.ensures.laid c.zeros-out_starts.ensures)
    (offsets-filled _ c.offsets-e.ensures.laid c.zeros-out_ends.ensures)
    c.cut.ensures
