-- The place joins the run, or begins one.
use Rattle.behaviors.proofs.Tests.{drawn-out, begun-anew}
use Rattle.behaviors.proofs.extend_run.Goals as goal

pub returns-then-joined : goal.returns-then-joined
returns-then-joined c = drawn-out _ _ c.if-joined.true

pub returns : goal.returns
returns c = begun-anew _ _ c.if-joined.false
