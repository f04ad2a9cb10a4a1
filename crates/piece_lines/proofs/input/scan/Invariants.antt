-- Each turn takes one byte more.
use Rattle.piece_lines.proofs.Scanning.{Scanning}
use Rattle.piece_lines.proofs.input.scan.Given as goal

abbrev pub invariant-loop-byte : goal.invariant-loop-byte
invariant-loop-byte l = Scanning l.initial.so_far l.bytes l.so_far l.byte-index
