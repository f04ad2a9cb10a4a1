-- By how many bytes the character has.
use native.Mathlib.Omega.{arith}
use Rattle.invisible.proofs.Characters.{code_one, code-two, code-three, code-four}
use Rattle.invisible.proofs.code_of.Goals as goal

pub returns-then-lead-lt192 : goal.returns-then-lead-lt192
returns-then-lead-lt192 c = code_one _ _ _ _ (omega arith)

pub returns-then-lead-lt224 : goal.returns-then-lead-lt224
returns-then-lead-lt224 c = code-two _ _ _ _ (omega arith) (omega arith)

pub returns-then-lead-lt240 : goal.returns-then-lead-lt240
returns-then-lead-lt240 c = code-three _ _ _ _ (omega arith) (omega arith)

pub returns : goal.returns
returns c = code-four _ _ _ _ (omega arith)
