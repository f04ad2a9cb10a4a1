-- Every place of the block so far ends on a boundary.
use mathlib.Core.Path.{◌≡◌}
use Rattle.buffers.specs.Every.{every_below}
use Rattle.pattern.specs.Placed.{end_stands}
use Rattle.pattern.proofs.blocks.all_stand.Given as goal

abbrev pub invariant-loop-k : goal.invariant-loop-k
invariant-loop-k l = l.ok ≡ every_below l.k (end_stands l.text l.list l.i)
