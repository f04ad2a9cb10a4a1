-- A command that starves, one that adds, one that replaces.
use Rattle.edit_steps.proofs.Positions.{stepped-starves, stepped-added, stepped-replacing}
use Rattle.edit_steps.proofs.walking.step.Goals as goal

pub returns-then-starves : goal.returns-then-starves
returns-then-starves c = stepped-starves _ _ _ _ c.starves.ensures c.if-starves.true

pub returns-then-command : goal.returns-then-command
returns-then-command c = stepped-added _ _ _ _ c.starves.ensures c.if-starves.false c.len_utf8.ensures c.if-command.true

pub returns : goal.returns
returns c =
    stepped-replacing _ _ _ _ c.starves.ensures c.if-starves.false c.len_utf8.ensures c.if-command.false c.skip.ensures
