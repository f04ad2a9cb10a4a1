-- Each turn tests one byte more.
use Rattle.lowercase.proofs.Running.{Tested}
use Rattle.lowercase.proofs.text.none_latin.Given as goal

abbrev pub invariant-loop-byte : goal.invariant-loop-byte
invariant-loop-byte l = Tested l.block l.none l.byte-index
