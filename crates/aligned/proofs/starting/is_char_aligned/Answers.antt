use mathlib.Core.Path.{refl}
use Rattle.aligned.specs.IsStarting.{is_char_aligned}
use Rattle.boundaries.proofs.Monotone.{at-end}
use Rattle.aligned.proofs.IsStarting.{char-aligned-none, char-aligned-first, char-aligned-more}
use native.Mathlib.Omega.{arith}
use Rattle.aligned.proofs.starting.is_char_aligned.Goals as goal

pub returns-then-text-eq0 : goal.returns-then-text-eq0
returns-then-text-eq0 c = at-end (is_char_aligned _ _ _) 0 _ _ (omega arith) (omega arith) (char-aligned-none _ _ _)

pub loop-i-init : goal.loop-i-init
loop-i-init c = char-aligned-first _ _ _ _ refl

pub loop-i-preserved : goal.loop-i-preserved
loop-i-preserved c =
    char-aligned-more _ _ _ _ _ _ (omega arith) c.loop-i.invariant c.carries_own-ok.ensures

pub returns : goal.returns
returns c =
    at-end (is_char_aligned _ _ _) _ _ _ (omega arith) c.loop-i-test.false c.loop-i.invariant
