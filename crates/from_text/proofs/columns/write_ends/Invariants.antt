-- Each turn writes a block of ends after the others; those after the last block are carried.
use Prim.Native.Nat.{◌*◌}
use Rattle.buffers.specs.Columns.{Filled}
use Rattle.utf8.specs.CharRanges.{char_end}
use Rattle.from_text.proofs.columns.write_ends.Given as goal

abbrev pub invariant-loop-k : goal.invariant-loop-k
invariant-loop-k l = Filled (char_end l.text) l.initial.ends 0 (l.k * 64) l.ends
