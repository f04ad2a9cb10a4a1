use mathlib.Core.Path.{refl}
use Rattle.aligned.specs.IsStarting.{is_identity}
use Rattle.boundaries.proofs.Monotone.{at-end}
use Rattle.aligned.proofs.IsStarting.{own-none, own-more}
use Rattle.aligned.proofs.starting.is_identity.Goals as goal

pub loop-i-init : goal.loop-i-init
loop-i-init c = own-none _ _

pub loop-i-preserved : goal.loop-i-preserved
loop-i-preserved c = own-more _ _ _ _ _ refl c.loop-i.invariant

pub returns : goal.returns
returns c = at-end (is_identity _ _) _ _ _ c.loop-i.auto.i-end c.loop-i-test.false c.loop-i.invariant
