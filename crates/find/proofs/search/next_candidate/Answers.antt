use mathlib.Core.Path.{refl}
use native.Mathlib.Omega.{arith}
use lib.ListN.{length-take, length-drop}
use Rattle.find.proofs.Candidates.{first-candidate, absent_none, absent-on, absent-block}
use Rattle.find.proofs.search.next_candidate.Goals as goal

pub loop-i-init : goal.loop-i-init
loop-i-init c = absent_none (omega arith)

pub first_candidate-k-requires : goal.first_candidate-k-requires
first_candidate-k-requires c = (simp (length-take, length-drop) (omega arith), simp (length-take, length-drop) (omega arith))

pub returns-then-k-lt64 : goal.returns-then-k-lt64
returns-then-k-lt64 c =
    absent-block _ _ _ c.requires.0 refl refl _ c.loop-i.invariant (first-candidate c.first_candidate-k.ensures) (omega arith) (omega arith) (omega arith)

pub skip_blocks-i-requires : goal.skip_blocks-i-requires
skip_blocks-i-requires c = (omega arith, omega arith)

pub loop-i-smaller : goal.loop-i-smaller
loop-i-smaller c = omega (arith, c.skip_blocks-i.ensures.onward, c.skip_blocks-i.ensures.most)

pub loop-i-preserved : goal.loop-i-preserved
loop-i-preserved c =
    absent-on
    (absent-block _ _ _ c.requires.0 refl refl _ c.loop-i.invariant (first-candidate c.first_candidate-k.ensures) (omega arith) (omega arith) (omega arith))
    c.skip_blocks-i.ensures

pub returns : goal.returns
returns c = c.loop-i.invariant
