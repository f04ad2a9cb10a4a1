-- A piece adds its bytes and one to the count.
use Rattle.behaviors.proofs.Tests.{one-counted, none-counted}
use Rattle.behaviors.proofs.counted.Goals as goal

pub returns-then-met : goal.returns-then-met
returns-then-met c = one-counted _ _ _ c.if-met.true

pub returns : goal.returns
returns c = none-counted _ _ _ c.if-met.false
