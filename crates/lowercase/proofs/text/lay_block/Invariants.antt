-- Each turn lays one byte, by comparison.
use Rattle.buffers.proofs.Splice.{Written}
use Rattle.lowercase.specs.Laying.{lowered_each}
use Rattle.lowercase.proofs.text.lay_block.Given as goal

abbrev pub invariant-loop-i : goal.invariant-loop-i
invariant-loop-i l = Written (lowered_each l.block) l.initial.out l.at l.out l.i
