-- The column is copied, or each turn lays one value, once or twice.
use Rattle.lowercase.proofs.Grown.{Growing}
use Rattle.lowercase.proofs.dotted.lay_column.Given as goal

abbrev pub invariant-loop-i : goal.invariant-loop-i
invariant-loop-i l = Growing l.text l.column l.initial.out l.out l.before l.at l.i
