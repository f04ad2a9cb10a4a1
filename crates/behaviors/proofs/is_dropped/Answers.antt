-- Where empty pieces are dropped, a run without a byte goes.
use Rattle.behaviors.proofs.Tests.{goes_kept, goes-empty}
use Rattle.behaviors.proofs.is_dropped.Goals as goal

pub returns-in-Kept : goal.returns-in-Kept
returns-in-Kept c = goes_kept _ _ c.in-Kept.is

pub returns-in-Dropped : goal.returns-in-Dropped
returns-in-Dropped c = goes-empty _ _ c.in-Dropped.is
