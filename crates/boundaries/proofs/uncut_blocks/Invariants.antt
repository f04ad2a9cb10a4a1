-- Every block so far cuts no character.
use Prim.Native.Nat.{◌*◌}
use mathlib.Core.Path.{◌≡◌}
use mathlib.Core.Bool.{true}
use Rattle.boundaries.specs.Monotone.{uncut_below}
use Rattle.boundaries.proofs.uncut_blocks.Given as goal

abbrev pub invariant-loop-k : goal.invariant-loop-k
invariant-loop-k l = uncut_below l.original l.starts l.ends (l.k * 64) ≡ true
