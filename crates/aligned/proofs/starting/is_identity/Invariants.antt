-- Every alignment so far is the byte at its index.
use mathlib.Core.Path.{◌≡◌}
use Rattle.aligned.specs.IsStarting.{is_identity}
use Rattle.aligned.proofs.starting.is_identity.Given as goal

abbrev pub invariant-loop-i : goal.invariant-loop-i
invariant-loop-i l = l.ok ≡ is_identity l.starts l.ends l.i
