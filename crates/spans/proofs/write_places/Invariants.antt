-- Each turn writes one more place, unless it goes.
use Rattle.note.specs.Notes.{limit}
use Rattle.spans.proofs.Placing.{Listing}
use Rattle.spans.proofs.write_places.Given as goal

abbrev pub invariant-loop-k : goal.invariant-loop-k
invariant-loop-k l = Listing limit l.list l.empty l.initial.spans l.k l.at l.spans
