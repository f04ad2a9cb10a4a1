-- Each turn passes over one more field.
use Rattle.stored_answers.proofs.Framing.{Reached}
use Rattle.stored_answers.proofs.fields.field.Given as goal

abbrev pub invariant-loop : goal.invariant-loop
invariant-loop l = Reached l.list l.index l.at l.counter
