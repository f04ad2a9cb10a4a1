-- Each turn lays down one more place.
use Prim.Native.Nat.{◌-◌}
use lib.ListN.{length}
use Rattle.replace.specs.Replacing.{carried}
use Rattle.replace.proofs.Columns.{Going}
use Rattle.replace.proofs.laying.lay_column.Given as goal

abbrev pub invariant-loop-k : goal.invariant-loop-k
invariant-loop-k l = Going (carried l.content_len l.column) l.column l.list l.content_len l.until l.initial.out l.at l.k l.out

abbrev pub decreases-loop-k : goal.decreases-loop-k
decreases-loop-k l = length l.list - l.k
