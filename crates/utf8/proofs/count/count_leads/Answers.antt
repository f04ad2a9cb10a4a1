use Prim.Native.Nat.{◌+◌, ◌*◌, ◌/◌}
use mathlib.Core.Path.{◌≡◌}
use native.Mathlib.Omega.{arith}
use lib.ListN.{length}
use Rattle.utf8.proofs.Chars.{none-counted, block-counted, leads-le-length, counted-le, all-counted}
use Rattle.utf8.proofs.count.count_leads.Goals as goal

pub loop-k-init : goal.loop-k-init
loop-k-init c = none-counted

pub loop-k-preserved : goal.loop-k-preserved
loop-k-preserved c =
    let next : 128 * c.loop-k.k + 128 ≡ 128 * (c.loop-k.k + 1) = omega arith in
    rw next at (block-counted c.loop-k.invariant (omega arith) (omega arith) c.block_leads.ensures)

pub overflow_add-n : goal.overflow_add-n
overflow_add-n c = omega (arith, counted-le (loop-k-preserved c))

pub returns : goal.returns
returns c =
    let end : 128 * c.loop-k.k ≡ 128 * (length c.args.s.now / 128) = omega arith in
    let head = rw end at c.loop-k.invariant in
    all-counted (block-counted head head.most (omega arith) c.block_leads-2.ensures) (omega arith)

pub overflow_add-result : goal.overflow_add-result
overflow_add-result c = omega (arith, returns c, leads-le-length c.args.s.now)
