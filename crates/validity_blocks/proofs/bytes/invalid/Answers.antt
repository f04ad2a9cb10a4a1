-- The code's tests are the parts of the definition.
use mathlib.Core.Bool.{xor}
use Rattle.utf8.specs.Table.{within}
use Rattle.validity_blocks.specs.Valid.{pending, never}
use Rattle.validity_blocks.proofs.Invalid.{odd, invalid-four}
use Rattle.validity_blocks.proofs.bytes.invalid.Goals as goal

pub returns : goal.returns
unfolding pending never odd within xor
returns c = invalid-four _ _ _ _
