use lib.ListN.{get_or}
use native.Mathlib.Omega.{arith}
use Rattle.lowercase.proofs.Grown.{none-summed, one-summed, all-summed, dotted-most}
use Rattle.lowercase.proofs.dotted.block_dotted.Goals as goal

pub loop-i-init : goal.loop-i-init
loop-i-init c = none-summed

pub overflow_add-n : goal.overflow_add-n
overflow_add-n c =
    omega (arith, c.loop-i.invariant.few, c.dotted_at-n.ensures, dotted-most (get_or c.args.a.now c.loop-i.i 0) (get_or c.args.b.now c.loop-i.i 0), c.requires.1)

pub loop-i-preserved : goal.loop-i-preserved
loop-i-preserved c = one-summed c.loop-i.invariant c.requires.0 c.loop-i-test.true c.dotted_at-n.ensures

pub returns : goal.returns
returns c = all-summed c.loop-i.invariant c.loop-i-test.false
