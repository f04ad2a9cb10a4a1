-- Each turn writes a block of starts before the others; those before the first block are carried.
use Prim.Native.Nat.{◌-◌, ◌*◌}
use lib.ListN.{length}
use Rattle.buffers.specs.Columns.{Filled}
use Rattle.utf8.specs.CharRanges.{char_start}
use Rattle.from_text.proofs.columns.write_starts.Given as goal

abbrev pub invariant-loop-k : goal.invariant-loop-k
invariant-loop-k l = Filled (char_start l.text) l.initial.starts (length l.text - l.k * 64) (length l.text) l.starts
