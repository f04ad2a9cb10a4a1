-- Each digit has its arm, and the last behaviour the rest.
use Rattle.piece_lines.proofs.Answering.{chosen-first, chosen-second, chosen-third, chosen-fourth, chosen_last}
use Rattle.piece_lines.proofs.behavior_of.Goals as goal

pub returns-in-49 : goal.returns-in-49
returns-in-49 c = chosen-first c.in-49.is

pub returns-in-50 : goal.returns-in-50
returns-in-50 c = chosen-second c.in-50.is

pub returns-in-51 : goal.returns-in-51
returns-in-51 c = chosen-third c.in-51.is

pub returns-in-52 : goal.returns-in-52
returns-in-52 c = chosen-fourth c.in-52.is

pub returns-in_default : goal.returns-in_default
returns-in_default c =
    let none = c.in_default.in_default-own.rest in chosen_last none.0.0.0.1 none.0.0.1 none.0.1 none.1
