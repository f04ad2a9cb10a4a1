use native.Mathlib.Omega.{arith}
use Rattle.stored_answers.proofs.Packing.{none-repeated, one-repeated, no_room, all-repeated}
use Rattle.stored_answers.proofs.unpack.lay.Goals as goal

pub loop-init : goal.loop-init
loop-init c = none-repeated _ _ _ _ _ c.number-times.ensures c.after-from.ensures c.requires

pub loop-preserved : goal.loop-preserved
loop-preserved c = one-repeated c.loop.invariant c.loop-test.true (omega arith) c.copy.ensures

pub shape_of-dst-after-loop : goal.shape_of-dst-after-loop
shape_of-dst-after-loop c = c.loop.invariant.laying.same

pub returns-after-loop : goal.returns-after-loop
returns-after-loop c = all-repeated c.loop.invariant (omega arith)

pub shape_of-dst-then-dst-end : goal.shape_of-dst-then-dst-end
shape_of-dst-then-dst-end c = c.loop.invariant.laying.same

pub returns-then-dst-end : goal.returns-then-dst-end
returns-then-dst-end c = no_room c.loop.invariant c.if-dst-end.true
