-- Every range so far is one, if the flag says so.
use mathlib.Core.Path.{◌≡◌}
use mathlib.Core.Bool.{true}
use Rattle.convert_list.proofs.TwoReads.{ExpandTo}
use Rattle.convert_list.proofs.all_expand.Given as goal

abbrev pub invariant-loop-i : goal.invariant-loop-i
invariant-loop-i l = l.ok ≡ true → ExpandTo l.from l.to l.len l.i
