-- Each turn writes one more word.
use lib.ListN.{get_or}
use Rattle.buffers.specs.Columns.{Filled}
use Rattle.code_point_blocks.specs.Laying.{packed_code}
use Rattle.code_point_blocks.proofs.pack.Given as goal

abbrev pub invariant-loop-i : goal.invariant-loop-i
invariant-loop-i l = Filled (λ k. packed_code (get_or l.codes k 0)) l.initial.words 0 l.i l.words
