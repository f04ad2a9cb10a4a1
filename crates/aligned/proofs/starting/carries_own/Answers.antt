-- The code's tests are the definition's.
use Rattle.aligned.proofs.IsStarting.{carries-flags}
use Rattle.aligned.proofs.starting.carries_own.Goals as goal

pub returns : goal.returns
returns c = carries-flags _ _ _ _ _ _ _ c.continues-more.ensures
