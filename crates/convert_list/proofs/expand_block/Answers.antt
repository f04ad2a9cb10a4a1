use native.Mathlib.Omega.{arith}
use Rattle.convert_list.proofs.TwoReads.{has-byte, has_end}
use Rattle.convert_list.proofs.Answering.{none_read, one-read, all_read}
use Rattle.convert_list.proofs.expand_block.Goals as goal

pub loop-i-init : goal.loop-i-init
loop-i-init c = none_read

pub first_start-requires : goal.first_start-requires
first_start-requires c =
    let known = c.requires in
    let so = known.expanding.each c.loop-i.i (omega arith) in
    omega (arith, known.paired, has-byte _ _ _ so, has_end _ _ _ so)

pub overflow_add-out_starts : goal.overflow_add-out_starts
overflow_add-out_starts c = omega (arith, c.requires.of_starts)

pub offset_bounds-out_starts-at : goal.offset_bounds-out_starts-at
offset_bounds-out_starts-at c = omega (arith, c.requires.of_starts)

pub bounds-out_starts-at : goal.bounds-out_starts-at
bounds-out_starts-at c = omega (arith, c.requires.of_starts, c.loop-i.invariant.starts_so.same)

pub bounds-to-i : goal.bounds-to-i
bounds-to-i c = omega (arith, c.requires.same)

pub last_end-requires : goal.last_end-requires
last_end-requires c =
    let known = c.requires in
    let so = known.expanding.each c.loop-i.i (omega arith) in
    (omega (arith, has-byte _ _ _ so), has_end _ _ _ so)

pub overflow_add-out_ends : goal.overflow_add-out_ends
overflow_add-out_ends c = omega (arith, c.requires.of_ends)

pub offset_bounds-out_ends-at : goal.offset_bounds-out_ends-at
offset_bounds-out_ends-at c = omega (arith, c.requires.of_ends)

pub bounds-out_ends-at : goal.bounds-out_ends-at
bounds-out_ends-at c = omega (arith, c.requires.of_ends, c.loop-i.invariant.ends_so.same)

pub loop-i-preserved : goal.loop-i-preserved
loop-i-preserved c = one-read c.loop-i.invariant c.requires (omega arith) c.first_start.ensures c.last_end.ensures

pub shape_of-out_starts : goal.shape_of-out_starts
shape_of-out_starts c = c.loop-i.invariant.starts_so.same

pub shape_of-out_ends : goal.shape_of-out_ends
shape_of-out_ends c = c.loop-i.invariant.ends_so.same

pub returns : goal.returns
returns c = all_read c.loop-i.invariant (omega arith)
