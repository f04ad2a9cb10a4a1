-- Each turn lays one more block.
use Rattle.buffers.proofs.Over.{Blocks}
use Rattle.buffers.proofs.blocks.copy_over.Given as goal

abbrev pub invariant-loop-k : goal.invariant-loop-k
invariant-loop-k g l = Blocks l.src l.from l.to l.initial.dst l.at l.until l.dst l.k
