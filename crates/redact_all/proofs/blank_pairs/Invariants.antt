-- Each turn blanks one literal.
use Rattle.redact_in_place.specs.InPlace.{held}
use Rattle.redact_all.proofs.Stepping.{Stepping}
use Rattle.redact_all.proofs.blank_pairs.Given as goal

abbrev pub invariant-loop-k : goal.invariant-loop-k
invariant-loop-k l = Stepping (held l.original l.original_shift l.size-2 l.initial.text l.initial.starts l.initial.ends) l.original l.original_shift l.words l.sizes l.initial.counts l.text l.starts l.ends l.counts l.size l.at l.k
