-- Every alignment so far fits its neighbours and its byte.
use mathlib.Core.Path.{◌≡◌}
use Rattle.aligned.specs.IsStarting.{is_char_aligned}
use Rattle.aligned.proofs.starting.is_char_aligned.Given as goal

abbrev pub invariant-loop-i : goal.invariant-loop-i
invariant-loop-i l = l.ok ≡ is_char_aligned l.text l.starts l.ends l.i
