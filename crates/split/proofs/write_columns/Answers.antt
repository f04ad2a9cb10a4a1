use native.Mathlib.Omega.{arith}
use Rattle.split.proofs.Joined.{none-gone, piece-room, next-gone, all_laid, inside_of}
use Rattle.split.proofs.write_columns.Goals as goal

pub loop-k-init : goal.loop-k-init
loop-k-init c = none-gone c.requires

pub bounds-to-k : goal.bounds-to-k
bounds-to-k c = omega (arith, c.requires.shifts_room.spans.paired)

pub original_start-start-requires : goal.original_start-start-requires
original_start-start-requires c = c.requires.shifts_room.spans.each _ (omega arith)

pub original_end-end-requires : goal.original_end-end-requires
original_end-end-requires c =
    let pre = c.requires in inside_of (pre.shifts_room.spans.each _ (omega arith)) pre.lengths_room.one_end

pub overflow_add-shifts : goal.overflow_add-shifts
overflow_add-shifts c = omega (arith, c.requires.shifts_room.low)

pub bounds-shifts-k : goal.bounds-shifts-k
bounds-shifts-k c = omega (arith, c.requires.shifts_room.room, c.loop-k.invariant.shifts_on.laid.same)

pub overflow_sub-lengths : goal.overflow_sub-lengths
overflow_sub-lengths c =
    omega (arith, c.original_start-start.ensures, c.original_end-end.ensures, c.requires.lengths_room.ordered c.loop-k.k (omega arith))

pub bounds-lengths-k : goal.bounds-lengths-k
bounds-lengths-k c = omega (arith, c.requires.lengths_room.room, c.loop-k.invariant.lengths_on.laid.same)

pub overflow_cast-a : goal.overflow_cast-a
overflow_cast-a c = omega (arith, c.type_inv.from c.loop-k.k)

pub overflow_cast-b : goal.overflow_cast-b
overflow_cast-b c = omega (arith, c.type_inv.to c.loop-k.k)

pub lower_piece-requires : goal.lower_piece-requires
lower_piece-requires c = piece-room c.requires c.loop-k.invariant (omega arith) c.original_start-start.ensures

pub overflow_sub-at : goal.overflow_sub-at
overflow_sub-at c = omega (arith, (c.requires.shifts_room.spans.each c.loop-k.k (omega arith)).forward)

pub overflow_add-at : goal.overflow_add-at
overflow_add-at c =
    let room = (piece-room c.requires c.loop-k.invariant (omega arith) c.original_start-start.ensures).starts_room.source.room in
    omega (arith, room, c.loop-k.invariant.starts_on.laid.same)

pub loop-k-preserved : goal.loop-k-preserved
loop-k-preserved c =
    next-gone c.requires c.loop-k.invariant (omega arith) c.original_start-start.ensures c.original_end-end.ensures c.lower_piece.ensures

pub shape_of-shifts : goal.shape_of-shifts
shape_of-shifts c = c.loop-k.invariant.shifts_on.laid.same

pub shape_of-lengths : goal.shape_of-lengths
shape_of-lengths c = c.loop-k.invariant.lengths_on.laid.same

pub shape_of-out_starts : goal.shape_of-out_starts
shape_of-out_starts c = c.loop-k.invariant.starts_on.laid.same

pub shape_of-out_ends : goal.shape_of-out_ends
shape_of-out_ends c = c.loop-k.invariant.ends_on.laid.same

pub returns : goal.returns
returns c = all_laid c.requires c.loop-k.invariant (omega arith)
