use native.Mathlib.Omega.{arith}
use Rattle.split.proofs.Joined.{none-added, one-added, all-added}
use Rattle.split.proofs.byte_count.Goals as goal

pub loop-k-init : goal.loop-k-init
loop-k-init c = none-added _ _

pub bounds-to-k : goal.bounds-to-k
bounds-to-k c = omega (arith, c.requires.paired)

pub overflow_sub-sum : goal.overflow_sub-sum
overflow_sub-sum c = c.requires.forward _ (omega arith)

pub overflow_cast-sum : goal.overflow_cast-sum
overflow_cast-sum c = omega (arith, c.type_inv.to c.loop-k.k)

pub overflow_add-sum : goal.overflow_add-sum
overflow_add-sum c =
    let next = one-added c.loop-k.invariant c.requires.paired (omega arith) in
    omega (arith, next.total, c.requires.few)

pub loop-k-preserved : goal.loop-k-preserved
loop-k-preserved c = one-added c.loop-k.invariant c.requires.paired (omega arith)

pub returns : goal.returns
returns c = all-added c.loop-k.invariant (omega arith)
