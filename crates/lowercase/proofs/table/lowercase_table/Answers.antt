-- The constant is the definition's table, entry by entry.
use mathlib.Core.Path.{refl}
use Rattle.lowercase.specs.Images.{run, twins, lowercase_table}
use Rattle.lowercase.proofs.table.lowercase_table.Goals as goal

pub returns : goal.returns
unfolding lowercase_table run twins
returns c = refl
