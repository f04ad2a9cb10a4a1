-- Each turn writes one more start: the byte's own place where it begins a character, else the one carried.
use Rattle.from_text.proofs.CharRanges.{StartsTo}
use Rattle.from_text.proofs.columns.carry_starts.Given as goal

abbrev pub invariant-loop-i : goal.invariant-loop-i
invariant-loop-i l = StartsTo l.text l.initial.starts l.starts l.start l.i
