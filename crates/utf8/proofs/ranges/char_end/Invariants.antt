-- The walk goes on over bytes that continue a character.
use Rattle.utf8.proofs.CharRanges.{EndAhead}
use Rattle.utf8.proofs.ranges.char_end.Given as goal

abbrev pub invariant-loop-k : goal.invariant-loop-k
invariant-loop-k l = EndAhead l.text l.i l.k
