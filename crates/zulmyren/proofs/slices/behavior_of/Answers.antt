-- Each number its behaviour.
use Rattle.zulmyren.proofs.Calls.{behavior-one, behavior-two, behavior-three, behavior-four, behavior-other}
use Rattle.zulmyren.proofs.slices.behavior_of.Goals as goal

pub returns-in-1 : goal.returns-in-1
returns-in-1 c = behavior-one c.in-1.is

pub returns-in-2 : goal.returns-in-2
returns-in-2 c = behavior-two c.in-2.is

pub returns-in-3 : goal.returns-in-3
returns-in-3 c = behavior-three c.in-3.is

pub returns-in-4 : goal.returns-in-4
returns-in-4 c = behavior-four c.in-4.is

pub returns-in_default : goal.returns-in_default
returns-in_default c =
    behavior-other c.in_default.in_default-own.rest.0.0.0.1 c.in_default.in_default-own.rest.0.0.1 c.in_default.in_default-own.rest.0.1 c.in_default.in_default-own.rest.1
