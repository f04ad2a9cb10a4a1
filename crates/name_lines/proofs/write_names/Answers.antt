use native.Mathlib.Omega.{arith}
use Rattle.name_lines.proofs.Writing.{none_written, writing-inside, at-line, line-room, line-written, all-written}
use Rattle.name_lines.proofs.write_names.Goals as goal

pub loop-start-init : goal.loop-start-init
loop-start-init c = none_written c.requires

pub line_end-end-requires : goal.line_end-end-requires
line_end-end-requires c = omega (arith, c.loop-start.invariant.most)

pub slice_bounds-put_line-count : goal.slice_bounds-put_line-count
slice_bounds-put_line-count c = omega (arith, writing-inside c.loop-start.invariant c.line_end-end.ensures)

pub slice_bounds-put_line-start : goal.slice_bounds-put_line-start
slice_bounds-put_line-start c = omega (arith, writing-inside c.loop-start.invariant c.line_end-end.ensures)

pub slice_bounds-put_line-end : goal.slice_bounds-put_line-end
slice_bounds-put_line-end c = omega (arith, writing-inside c.loop-start.invariant c.line_end-end.ensures)

pub put_line-at-requires : goal.put_line-at-requires
put_line-at-requires c = line-room c.loop-start.invariant c.loop-start-test.true c.line_end-end.ensures

pub overflow_add-k : goal.overflow_add-k
overflow_add-k c =
    omega (arith, (line-room c.loop-start.invariant c.loop-start-test.true c.line_end-end.ensures).sizes_room)

pub end_len-requires : goal.end_len-requires
end_len-requires c = omega (arith, writing-inside c.loop-start.invariant c.line_end-end.ensures)

pub loop-start-preserved : goal.loop-start-preserved
loop-start-preserved c =
    line-written c.loop-start.invariant c.loop-start-test.true c.line_end-end.ensures c.end_len.ensures c.put_line-at.ensures

pub overflow_add-start : goal.overflow_add-start
overflow_add-start c = omega (arith, (loop-start-preserved c).most)

pub loop-start-smaller : goal.loop-start-smaller
loop-start-smaller c =
    let line = at-line c.loop-start.invariant c.loop-start-test.true c.line_end-end.ensures c.end_len.ensures in
    omega (arith, line.most, line.past)

pub shape_of-words : goal.shape_of-words
shape_of-words c = c.loop-start.invariant.words_laid.same

pub shape_of-sizes : goal.shape_of-sizes
shape_of-sizes c = c.loop-start.invariant.sizes_laid.same

pub returns : goal.returns
returns c = all-written c.loop-start.invariant c.loop-start-test.false
