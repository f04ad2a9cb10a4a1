-- Every byte of the block so far can stand where it does.
use mathlib.Core.Path.{◌≡◌}
use Rattle.buffers.specs.Every.{every_below}
use Rattle.pattern.specs.Placed.{placed_byte}
use Rattle.pattern.proofs.blocks.all_placed.Given as goal

abbrev pub invariant-loop-j : goal.invariant-loop-j
invariant-loop-j l = l.ok ≡ every_below l.j (placed_byte l.list l.i)
