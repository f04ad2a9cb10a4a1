-- What comes back is compared.
use Rattle.replayed_pieces.proofs.Replaying.{pairs-replayed}
use Rattle.replayed_pieces.proofs.pairs.listed.Goals as goal

pub returns : goal.returns
returns c = pairs-replayed c.answered-refusal.ensures c.are_pairs.ensures
