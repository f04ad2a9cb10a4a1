-- Each turn reads one range more.
use Rattle.convert_list.proofs.Answering.{Reading}
use Rattle.convert_list.proofs.expand_block.Given as goal

abbrev pub invariant-loop-i : goal.invariant-loop-i
invariant-loop-i l = Reading l.starts l.ends l.from l.to l.at l.initial.out_starts l.initial.out_ends l.out_starts l.out_ends l.i
