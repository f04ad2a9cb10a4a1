-- One number, or none.
use Rattle.spans.proofs.Placing.{run_room, run-laid, run-passed}
use Rattle.spans.proofs.write_run.Goals as goal

pub bounds-spans-at : goal.bounds-spans-at
bounds-spans-at c = run_room c.requires c.if-met.true

pub returns-then-met : goal.returns-then-met
returns-then-met c = run-laid c.requires c.if-met.true

pub returns : goal.returns
returns c = run-passed c.if-met.false
