-- The walk goes back over bytes that continue a character.
use Rattle.utf8.proofs.CharRanges.{StartBack}
use Rattle.utf8.proofs.ranges.char_start.Given as goal

abbrev pub invariant-loop-k : goal.invariant-loop-k
invariant-loop-k l = StartBack l.text l.i l.k
