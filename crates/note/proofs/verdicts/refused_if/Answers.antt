-- Both ways out are the definition's.
use Rattle.note.proofs.FirstMet.{refused-when}
use Rattle.note.proofs.verdicts.refused_if.Goals as goal

pub returns-then-met : goal.returns-then-met
returns-then-met c = refused-when c.if-met.true
