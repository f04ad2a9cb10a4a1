-- Each turn adds one more number's bits.
use Rattle.code_point_blocks.proofs.Packing.{Gathered}
use Rattle.code_point_blocks.proofs.or_all.Given as goal

abbrev pub invariant-loop-code : goal.invariant-loop-code
invariant-loop-code l = Gathered l.codes l.bits l.code-index
