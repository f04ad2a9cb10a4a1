-- Each turn lays one more unit.
use Rattle.stored_answers.proofs.Packing.{Repeating}
use Rattle.stored_answers.proofs.unpack.lay.Given as goal

abbrev pub invariant-loop : goal.invariant-loop
invariant-loop l = Repeating l.part l.initial.dst l.at l.times l.unit l.dst l.end l.counter
