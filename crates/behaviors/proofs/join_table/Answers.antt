-- Each entry is what `joins` says.
use Rattle.behaviors.proofs.Tests.{table-by}
use Rattle.behaviors.proofs.join_table.Goals as goal

pub returns : goal.returns
returns c = table-by _ c.joins.ensures c.joins-2.ensures c.joins-3.ensures c.joins-4.ensures
