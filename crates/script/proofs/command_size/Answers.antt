-- One case for each command.
use Rattle.script.proofs.Scripts.{width-replace, width-add, width-remove, width-unknown}
use Rattle.script.proofs.command_size.Goals as goal

pub returns-then-command-eq1 : goal.returns-then-command-eq1
returns-then-command-eq1 c = width-replace _ c.if-command-eq1.true

pub returns-then-command-eq2 : goal.returns-then-command-eq2
returns-then-command-eq2 c = width-add _ c.if-command-eq2.true

pub returns-then-command-eq3 : goal.returns-then-command-eq3
returns-then-command-eq3 c = width-remove _ c.if-command-eq3.true

pub returns : goal.returns
returns c = width-unknown _ c.if-command-eq1.false c.if-command-eq2.false c.if-command-eq3.false
