use native.Mathlib.Omega.{arith}
use Rattle.boundaries.specs.Spanning.{spans_below}
use Rattle.boundaries.proofs.Monotone.{at-end}
use Rattle.boundaries.proofs.Spanning.{spans-none, spans-more}
use Rattle.boundaries.proofs.widths_match.Goals as goal

pub loop-j-init : goal.loop-j-init
loop-j-init c = spans-none _ _ _

pub overflow_cast-apart : goal.overflow_cast-apart
overflow_cast-apart c = omega (arith, c.type_inv.widths c.loop-j.j)

pub loop-j-preserved : goal.loop-j-preserved
loop-j-preserved c =
    spans-more _ _ _ _ c.loop-j.apart c.loop-j.invariant c.saturating_sub.ensures

pub returns : goal.returns
returns c = at-end (spans_below _ _ _) _ _ _ c.loop-j.auto.j-end c.loop-j-test.false c.loop-j.invariant
