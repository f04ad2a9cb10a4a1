-- Each turn passes one more character; the range's end, or the count, is the way out.
use Rattle.edit_steps.proofs.Positions.{Skipping}
use Rattle.edit_steps.proofs.walking.skip.Given as goal

abbrev pub invariant-loop : goal.invariant-loop
invariant-loop l = Skipping l.text l.end l.count l.initial.p l.counter l.p
