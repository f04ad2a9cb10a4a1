-- Each turn adds one place's size, unless it passes the limit.
use Prim.Native.Nat.{◌-◌}
use lib.ListN.{length}
use Rattle.note.specs.Notes.{limit}
use Rattle.replace.proofs.Sizes.{Measured}
use Rattle.replace.proofs.result_len.Given as goal

abbrev pub invariant-loop-i : goal.invariant-loop-i
invariant-loop-i l = Measured limit l.list l.content_len l.total l.i

abbrev pub decreases-loop-i : goal.decreases-loop-i
decreases-loop-i l = length l.list - l.i
