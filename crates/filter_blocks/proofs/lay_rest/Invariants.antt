-- Each turn lays a byte and its alignment, and goes on where it is kept.
use Rattle.filter_blocks.specs.Counting.{KeptSoFar}
use Rattle.filter_blocks.proofs.lay_rest.Given as goal

abbrev pub invariant-loop-q : goal.invariant-loop-q
invariant-loop-q l = KeptSoFar l.text l.starts l.ends l.flags l.end l.initial.out l.initial.out_starts l.initial.out_ends l.q l.i l.at l.out l.out_starts l.out_ends
