-- Each turn writes one more number of the column.
use Rattle.buffers.proofs.Splice.{Written}
use Rattle.slice.specs.Slicing.{lowered}
use Rattle.slice.proofs.write_lowered.Given as goal

abbrev pub invariant-loop-j : goal.invariant-loop-j
invariant-loop-j l = Written (lowered l.base l.column) l.initial.out l.at l.out l.j
