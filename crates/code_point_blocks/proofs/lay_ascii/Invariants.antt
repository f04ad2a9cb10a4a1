-- Each turn writes one more code point.
use Rattle.buffers.proofs.Splice.{Written}
use Rattle.code_point_blocks.proofs.lay_ascii.Given as goal

abbrev pub invariant-loop-i : goal.invariant-loop-i
invariant-loop-i l = Written l.codes l.initial.out l.at l.out l.i
