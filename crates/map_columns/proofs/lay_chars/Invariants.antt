-- Each turn reads one more byte of the text.
use Prim.Native.Nat.{◌-◌}
use lib.ListN.{length}
use Rattle.map_columns.proofs.Spread.{Spreading}
use Rattle.map_columns.proofs.lay_chars.Given as goal

abbrev pub invariant-loop-i : goal.invariant-loop-i
invariant-loop-i l = Spreading l.text l.starts l.ends l.position l.codes l.initial.out_starts l.initial.out_ends l.from l.until l.out_starts l.out_ends l.q l.at l.i

abbrev pub decreases-loop-i : goal.decreases-loop-i
decreases-loop-i l = length l.text - l.q
