use native.Mathlib.Omega.{arith}
use Rattle.split_offsets.proofs.Converting.{none-converted, piece-here, in-columns, one-converted, all-converted}
use Rattle.split_offsets.proofs.write_bytes.Goals as goal

pub loop-k-init : goal.loop-k-init
loop-k-init c = none-converted c.requires _

pub bounds-out_starts-k : goal.bounds-out_starts-k
bounds-out_starts-k c = (in-columns c.requires c.loop-k.invariant (omega arith)).0

pub piece_bytes-bytes-requires : goal.piece_bytes-bytes-requires
piece_bytes-bytes-requires c = piece-here c.requires c.loop-k.invariant (omega arith) c.span_start.ensures c.span_end.ensures

pub offset_bounds-out_starts-k-in-loop-k : goal.offset_bounds-out_starts-k-in-loop-k
offset_bounds-out_starts-k-in-loop-k c =
    omega (arith, c.loop-k.invariant.starts_laid.same, (in-columns c.requires c.loop-k.invariant (omega arith)).0)

pub bounds-out_starts-k-in-loop-k : goal.bounds-out_starts-k-in-loop-k
bounds-out_starts-k-in-loop-k c = (in-columns c.requires c.loop-k.invariant (omega arith)).0

pub offset_bounds-out_ends-k : goal.offset_bounds-out_ends-k
offset_bounds-out_ends-k c =
    omega (arith, c.loop-k.invariant.ends_laid.same, (in-columns c.requires c.loop-k.invariant (omega arith)).1)

pub bounds-out_ends-k : goal.bounds-out_ends-k
bounds-out_ends-k c = (in-columns c.requires c.loop-k.invariant (omega arith)).1

pub overflow_sub-sum : goal.overflow_sub-sum
overflow_sub-sum c =
    let piece = piece-here c.requires c.loop-k.invariant (omega arith) c.span_start.ensures c.span_end.ensures in
    omega (arith, piece.some, piece.behind)

pub overflow_add-sum : goal.overflow_add-sum
overflow_add-sum c =
    let piece = piece-here c.requires c.loop-k.invariant (omega arith) c.span_start.ensures c.span_end.ensures in
    omega (arith, piece.some, piece.behind, piece.in_starts, piece.few)

pub loop-k-preserved : goal.loop-k-preserved
loop-k-preserved c =
    one-converted c.requires c.loop-k.invariant (omega arith) c.span_start.ensures c.span_end.ensures
    c.piece_bytes-bytes.ensures c.start_of.ensures c.end_of.ensures

pub shape_of-out_starts : goal.shape_of-out_starts
shape_of-out_starts c = c.loop-k.invariant.starts_laid.same

pub shape_of-out_ends : goal.shape_of-out_ends
shape_of-out_ends c = c.loop-k.invariant.ends_laid.same

pub returns : goal.returns
returns c = all-converted c.requires c.loop-k.invariant (omega arith)
