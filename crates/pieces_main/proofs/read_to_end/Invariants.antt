-- Each turn reads one chunk more.
use Rattle.pieces_main.specs.Reading.{Behind}
use Rattle.pieces_main.proofs.read_to_end.Given as goal

abbrev pub invariant-loop : goal.invariant-loop
invariant-loop g l = Behind l.initial.so_far l.so_far
