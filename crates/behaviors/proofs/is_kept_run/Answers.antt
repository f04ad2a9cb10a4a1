-- Both tests together.
use Rattle.behaviors.proofs.Tests.{stays_by}
use Rattle.behaviors.proofs.is_kept_run.Goals as goal

pub returns : goal.returns
returns c = stays_by _ _ _ c.drops_matches.ensures c.is_dropped.ensures
