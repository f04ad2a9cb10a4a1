use Rattle.boundaries.specs.Monotone.{uncut_below}
use Rattle.boundaries.proofs.Monotone.{uncut-none, uncut-more, at-end}
use Rattle.boundaries.proofs.all_uncut.Goals as goal

pub loop-i-init : goal.loop-i-init
loop-i-init c = uncut-none _ _ _

pub uncut-requires : goal.uncut-requires
uncut-requires c = tt

pub uncut-requires-in-loop-i : goal.uncut-requires-in-loop-i
uncut-requires-in-loop-i c = tt

pub loop-i-preserved : goal.loop-i-preserved
loop-i-preserved c =
    uncut-more _ _ _ _ _ _ _ c.loop-i.invariant c.uncut.ensures c.uncut-in-loop-i.ensures

pub returns : goal.returns
returns c = at-end (uncut_below _ _ _) _ _ _ c.loop-i.auto.i-end c.loop-i-test.false c.loop-i.invariant
