-- Block by block.
use Rattle.std.specs.Slice.Iter.{chunks_rest, chunks_size}
use Rattle.code_points.proofs.Judging.{Ahead}
use Rattle.code_points.proofs.judge.Given as goal

abbrev pub invariant-loop-block : goal.invariant-loop-block
invariant-loop-block l = Ahead l.codes (chunks_rest l.block-iterator) (chunks_size l.block-iterator) l.scalar l.size
