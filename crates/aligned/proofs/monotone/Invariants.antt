-- No bit is set so far: each alignment can follow the one before it.
use mathlib.Core.Path.{◌≡◌}
use lib.Dec.{eqb}
use Rattle.aligned.specs.MisalignedBits.{none_misaligned}
use Rattle.aligned.proofs.monotone.Given as goal

abbrev pub invariant-loop-i : goal.invariant-loop-i
invariant-loop-i l = eqb l.found 0 ≡ none_misaligned l.text l.starts l.ends l.i
