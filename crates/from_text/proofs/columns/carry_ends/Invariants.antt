-- Each turn writes one more end; a byte that begins a character is the end of the byte before it.
use Prim.Native.Nat.{◌≤◌}
use Rattle.from_text.proofs.CharRanges.{EndsFrom}
use Rattle.from_text.proofs.columns.carry_ends.Given as goal

abbrev pub invariant-loop-i : goal.invariant-loop-i
invariant-loop-i l = (l.from ≤ l.i) × EndsFrom l.text l.initial.ends l.ends l.end l.i
