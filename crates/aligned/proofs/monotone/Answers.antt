use Rattle.boundaries.specs.Monotone.{monotone}
use Rattle.boundaries.proofs.Monotone.{monotone-none, at-end}
use Rattle.aligned.specs.MisalignedBits.{none_misaligned}
use Rattle.aligned.proofs.MisalignedBits.{first-none, next-none, none-is-monotone}
use native.Mathlib.Omega.{arith}
use Rattle.aligned.proofs.monotone.Goals as goal

pub returns-then-text-eq0 : goal.returns-then-text-eq0
returns-then-text-eq0 c = at-end (monotone _ _ _ _) 0 _ _ (omega arith) (omega arith) (monotone-none _ _ _ _)

pub loop-i-init : goal.loop-i-init
loop-i-init c = first-none _ _ _ c.saturating_sub-found.ensures

pub loop-i-preserved : goal.loop-i-preserved
loop-i-preserved c =
    let turn = c.loop-i in
    next-none _ _ _ _ turn.found (omega arith) turn.invariant c.misaligned_bits-found.ensures

pub returns : goal.returns
returns c =
    none-is-monotone _ _ _ _ _ c.loop-i.found (omega arith)
    (at-end (none_misaligned _ _ _) _ _ _ (omega arith) c.loop-i-test.false c.loop-i.invariant) c.saturating_sub.ensures
