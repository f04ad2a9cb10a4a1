-- The bytes decide, or the ends do.
use mathlib.Core.Path.{ap}
use mathlib.Core.Bool.{not}
use Rattle.pattern.proofs.Placed.{unplaced, by-ends}
use Rattle.pattern.proofs.blocks.block_fits.Goals as goal

pub returns-then-not-all_placed : goal.returns-then-not-all_placed
returns-then-not-all_placed c = unplaced _ _ _ c.all_placed.ensures (ap not c.if-not-all_placed.true)

pub returns : goal.returns
returns c = by-ends _ _ _ c.all_placed.ensures (ap not c.if-not-all_placed.false) c.all_stand.ensures
