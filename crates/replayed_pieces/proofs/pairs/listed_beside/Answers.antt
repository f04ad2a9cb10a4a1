-- The passed buffers hold what their fields do.
use Rattle.stored_answers.proofs.Differences.{numbers-filled}
use Rattle.stored_answers.proofs.Splice.{take-laid}
use Rattle.replayed_pieces.proofs.Replaying.{answers-lent}
use Rattle.replayed_pieces.proofs.pairs.listed_beside.Goals as goal

pub returns : goal.returns
returns c =
    answers-lent (take-laid c.bytes-r.ensures.laid) (numbers-filled _ c.numbers-s.ensures.laid) (numbers-filled _ c.numbers-e.ensures.laid) c.listed.ensures
