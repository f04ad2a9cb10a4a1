-- One verdict that accepts leaves the other; of two refusals the one of lower rank is given.
use mathlib.Core.Path.{◌∙◌}
use Rattle.note.proofs.FirstMet.{earlier-first, earlier-second, earlier-both}
use Rattle.note.proofs.Order.{least-rank}
use Rattle.note.proofs.verdicts.earlier.Goals as goal

pub returns-in-Ok-default : goal.returns-in-Ok-default
returns-in-Ok-default c = earlier-first c.in-Ok-default.is-0

pub returns-in-Err-Ok : goal.returns-in-Err-Ok
returns-in-Err-Ok c = earlier-second c.in-Err-Ok.is-0 c.in-Err-Ok.is-1

pub returns-in-Err-Err : goal.returns-in-Err-Err
returns-in-Err-Err c =
    let two = c.in-Err-Err in
    earlier-both two.is-0 two.is-1 (c.min.ensures ∙ least-rank two.j two.k)
