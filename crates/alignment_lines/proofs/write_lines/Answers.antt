use native.Mathlib.Omega.{arith}
use Rattle.alignment_lines.proofs.Runs.{run-within}
use Rattle.alignment_lines.proofs.Lines.{no_line, line-room, one_line, every-line}
use Rattle.alignment_lines.proofs.write_lines.Goals as goal

pub loop-at-init : goal.loop-at-init
loop-at-init c = no_line

pub run_at-count-requires : goal.run_at-count-requires
run_at-count-requires c = (c.requires.0, c.loop-at-test.true)

pub write_line-size-requires : goal.write_line-size-requires
write_line-size-requires c =
    line-room c.loop-at.invariant c.requires.0 c.requires.1 c.requires.2 c.loop-at-test.true c.run_at-count.ensures _ _
    (omega (arith, c.type_inv.starts c.loop-at.at, c.type_inv.ends c.loop-at.at))
    (omega (arith, c.type_inv.starts c.loop-at.at, c.type_inv.ends c.loop-at.at))

pub overflow_add-at : goal.overflow_add-at
overflow_add-at c =
    omega (arith, run-within c.args.starts.now c.args.ends.now c.loop-at.at c.run_at-count.result c.requires.0 c.loop-at-test.true c.run_at-count.ensures)

pub loop-at-smaller : goal.loop-at-smaller
loop-at-smaller c =
    omega (arith, run-within c.args.starts.now c.args.ends.now c.loop-at.at c.run_at-count.result c.requires.0 c.loop-at-test.true c.run_at-count.ensures)

pub loop-at-preserved : goal.loop-at-preserved
loop-at-preserved c =
    one_line c.loop-at.invariant c.requires.0 c.requires.1 c.requires.2 c.loop-at-test.true c.run_at-count.ensures
    (omega (arith, c.type_inv.starts c.loop-at.at, c.type_inv.ends c.loop-at.at))
    (omega (arith, c.type_inv.starts c.loop-at.at, c.type_inv.ends c.loop-at.at))
    c.write_line-size.ensures

pub shape_of-out : goal.shape_of-out
shape_of-out c = c.loop-at.invariant.same

pub returns : goal.returns
returns c = every-line c.loop-at.invariant c.loop-at-test.false
