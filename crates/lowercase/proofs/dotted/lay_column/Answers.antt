use native.Mathlib.Omega.{arith}
use Rattle.lowercase.proofs.Grown.{none-growing, column-copied, value_room, one-growing, all-growing}
use Rattle.lowercase.proofs.dotted.lay_column.Goals as goal

pub returns-then-size-text : goal.returns-then-size-text
returns-then-size-text c = column-copied c.requires (omega arith) c.copy.ensures

pub loop-i-init : goal.loop-i-init
loop-i-init c = none-growing c.requires

pub fill-requires : goal.fill-requires
fill-requires c = (value_room c.requires c.loop-i.invariant (omega arith) c.dotted_at.ensures).1

pub loop-i-preserved : goal.loop-i-preserved
loop-i-preserved c = one-growing c.requires c.loop-i.invariant (omega arith) c.dotted_at.ensures c.fill.ensures

pub returns : goal.returns
returns c = all-growing c.requires c.loop-i.invariant c.loop-i-test.false
