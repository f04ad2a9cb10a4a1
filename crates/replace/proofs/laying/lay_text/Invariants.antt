-- Each turn lays down one more place.
use Prim.Native.Nat.{◌-◌}
use lib.ListN.{length}
use Rattle.buffers.specs.Splice.{part}
use Rattle.replace.proofs.Columns.{Going}
use Rattle.replace.proofs.laying.lay_text.Given as goal

abbrev pub invariant-loop-i : goal.invariant-loop-i
invariant-loop-i l = Going (λ end. part l.padded 0 l.content_len) l.text l.list l.content_len l.until l.initial.out l.at l.i l.out

abbrev pub decreases-loop-i : goal.decreases-loop-i
decreases-loop-i l = length l.list - l.i
