use mathlib.Core.Path.{◌≡◌}
use native.Mathlib.Omega.{arith}
use lib.ListN.{length}
use Rattle.alignment_lines.proofs.Runs.{none-walked, one-walked, at-end, other-start, other-end}
use Rattle.alignment_lines.proofs.run_at.Goals as goal
use Rattle.alignment_lines.proofs.run_at.Goals.{then-starts-i-via-then-starts-i, then-starts-i-via-else-starts-i+then-ends-i}

pub loop-i-init : goal.loop-i-init
loop-i-init c = none-walked (omega arith)

pub returns-then-starts-i : goal.returns-then-starts-i
returns-then-starts-i c =
    elim c.then-starts-i.branch [
      | then-starts-i-via-then-starts-i w ↦ other-start c.loop-i.invariant c.requires.0 c.loop-i-test.true w.if-starts-i.true
      | then-starts-i-via-else-starts-i+then-ends-i w ↦ other-end c.loop-i.invariant c.requires.0 c.loop-i-test.true w.if-ends-i.true
    ]

pub loop-i-preserved : goal.loop-i-preserved
loop-i-preserved c = one-walked c.loop-i.invariant c.requires.0 c.loop-i-test.true c.if-starts-i.false c.if-ends-i.false

pub returns : goal.returns
returns c =
    let end : c.loop-i.i ≡ length c.args.starts.now = omega (arith, c.loop-i.invariant.most) in
    rw end at (at-end c.loop-i.invariant (omega arith))
