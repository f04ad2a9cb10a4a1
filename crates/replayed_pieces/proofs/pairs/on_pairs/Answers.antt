-- The passed pairs are those of their fields.
use Rattle.stored_answers.proofs.Differences.{numbers-filled}
use Rattle.replayed_pieces.proofs.Replaying.{pairs-lent}
use Rattle.replayed_pieces.proofs.pairs.on_pairs.Goals as goal

pub returns : goal.returns
returns g c =
    let replayed = pairs-lent (numbers-filled _ c.numbers-f.ensures.laid) (numbers-filled _ c.numbers-t.ensures.laid) c.listed_beside.ensures in
    (_, (c.into.ensures, replayed))
