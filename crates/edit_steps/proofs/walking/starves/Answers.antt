-- An added character needs none.
use mathlib.Core.Path.{sym}
use Rattle.edit_steps.proofs.Positions.{starves-added, starves-replacing}
use Rattle.edit_steps.proofs.walking.starves.Goals as goal

pub returns-then-command : goal.returns-then-command
returns-then-command c = sym (starves-added _ _ _ c.if-command.true)

pub returns : goal.returns
returns c = sym (starves-replacing _ _ _ c.if-command.false)
