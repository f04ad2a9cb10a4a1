-- A place, or none.
use mathlib.Core.Path.{ap, sym}
use lib.ListN.{length}
use Rattle.find.proofs.FoundPlaces.{between-some, between_none}
use Rattle.find.proofs.count_between.Goals as goal

pub returns-then-from-to : goal.returns-then-from-to
returns-then-from-to c = sym (ap length (between-some c.if-from-to.true))

pub returns : goal.returns
returns c = sym (ap length (between_none c.if-from-to.false))
