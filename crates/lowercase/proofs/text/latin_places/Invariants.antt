-- Each turn lays a place, and passes it where it is one.
use Rattle.lowercase.proofs.Fixing.{Placing}
use Rattle.lowercase.proofs.text.latin_places.Given as goal

abbrev pub invariant-loop-i : goal.invariant-loop-i
invariant-loop-i l = Placing l.block l.initial.places l.places l.n l.i
