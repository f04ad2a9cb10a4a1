-- Each turn turns one more end.
use Rattle.char_columns.proofs.Pairs.{Ending}
use Rattle.char_columns.proofs.write_plain.Given as goal

abbrev pub invariant-loop-k : goal.invariant-loop-k
invariant-loop-k l = Ending l.text l.count l.out_starts l.initial.out_ends l.k l.out_ends
