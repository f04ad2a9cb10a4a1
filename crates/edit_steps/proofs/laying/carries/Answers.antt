-- An added character, and a replacing one.
use native.Mathlib.Omega.{arith}
use Rattle.edit_steps.proofs.Given.{carries-added, carries-replacing}
use Rattle.edit_steps.proofs.laying.carries.Goals as goal

pub returns-then-command : goal.returns-then-command
returns-then-command c = carries-added _ _ _ c.if-command.true c.before_end.ensures

pub bounds-column-at : goal.bounds-column-at
bounds-column-at c = omega (arith, c.requires.found c.if-command.false)

pub returns : goal.returns
returns c = carries-replacing _ _ _ c.if-command.false
