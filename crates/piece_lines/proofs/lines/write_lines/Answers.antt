use native.Mathlib.Omega.{arith}
use Rattle.piece_lines.proofs.Written.{no_line, line-room, one_line, every-line}
use Rattle.piece_lines.proofs.lines.write_lines.Goals as goal

pub loop-i-init : goal.loop-i-init
loop-i-init c = no_line

pub overflow_cast-start : goal.overflow_cast-start
overflow_cast-start c = omega (arith, c.type_inv.starts c.loop-i.i)

pub bounds-ends-i : goal.bounds-ends-i
bounds-ends-i c = omega (arith, c.requires.0.alike)

pub overflow_cast-end : goal.overflow_cast-end
overflow_cast-end c = omega (arith, c.type_inv.ends c.loop-i.i)

pub slice_bounds-write_line-count : goal.slice_bounds-write_line-count
slice_bounds-write_line-count c = c.requires.0.ordered c.loop-i.i c.loop-i-test.true

pub slice_bounds-write_line-start : goal.slice_bounds-write_line-start
slice_bounds-write_line-start c = c.requires.0.ordered c.loop-i.i c.loop-i-test.true

pub slice_bounds-write_line-end : goal.slice_bounds-write_line-end
slice_bounds-write_line-end c = c.requires.0.inside c.loop-i.i c.loop-i-test.true

pub write_line-reach-requires : goal.write_line-reach-requires
write_line-reach-requires c = line-room c.loop-i.invariant c.requires.1 c.requires.0.alike c.loop-i-test.true

pub loop-i-preserved : goal.loop-i-preserved
loop-i-preserved c =
    one_line c.loop-i.invariant c.requires.1 c.requires.0.alike c.loop-i-test.true c.write_line-reach.ensures

pub shape_of-out : goal.shape_of-out
shape_of-out c = c.loop-i.invariant.same

pub returns : goal.returns
returns c = every-line c.loop-i.invariant c.requires.1 (omega arith)
