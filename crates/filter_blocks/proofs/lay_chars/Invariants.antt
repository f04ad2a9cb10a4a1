-- Each turn lays one more character, and goes on where it is kept.
use Rattle.filter_blocks.specs.Counting.{KeptBetween}
use Rattle.filter_blocks.proofs.lay_chars.Given as goal

abbrev pub invariant-loop-i : goal.invariant-loop-i
invariant-loop-i l = KeptBetween l.text l.starts l.ends l.flags l.initial.out l.initial.out_starts l.initial.out_ends l.q l.i l.at l.out l.out_starts l.out_ends
