use Prim.Native.Nat.{◌+◌, ◌*◌, ◌/◌}
use mathlib.Core.Path.{◌≡◌, sym}
use native.Mathlib.Omega.{arith}
use lib.ListN.{length}
use Rattle.validity.proofs.Ascii.{ascii-none, ascii_more, ascii-not, ascii-done}
use Rattle.validity.proofs.is_ascii.Goals as goal

pub loop-k-init : goal.loop-k-init
loop-k-init c = ascii-none

pub returns-then-largest-ge128 : goal.returns-then-largest-ge128
returns-then-largest-ge128 c =
    sym (ascii-not 1024 c.loop-k.invariant (omega arith) c.largest.ensures c.if-largest-ge128.true)

pub loop-k-preserved : goal.loop-k-preserved
loop-k-preserved c =
    let next : (c.loop-k.k + 1) * 1024 ≡ c.loop-k.k * 1024 + 1024 = omega arith in
    rw next (ascii_more 1024 c.loop-k.invariant (omega arith) c.largest.ensures c.if-largest-ge128.false)

pub returns : goal.returns
returns c =
    let all : length c.args.s.now / 1024 ≡ c.loop-k.k = omega arith in
    ascii-done c.loop-k.invariant (rw all at c.largest-2.ensures)
