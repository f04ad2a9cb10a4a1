-- A byte of a part is the one of the text as far on.
use Rattle.std.proofs.Common.{arith, length-take, length-drop, ◌+◌, ◌<◌, length}
use Rattle.validity_blocks.proofs.Valid.{invalid-none, invalid-more, valid-read, rest_at}
use Rattle.validity_blocks.proofs.blocks.all_stand.Goals as goal

pub loop-j-init : goal.loop-j-init
loop-j-init g c = invalid-none

pub cannot-bad-requires : goal.cannot-bad-requires
cannot-bad-requires g c =
    let s = c.args.s.now in
    let j = c.loop-j.j in
    let inside : j + 3 < length s = omega (arith, simp (length-take, length-drop) at c.loop-j-test.true) in
    rw (rest_at s 1 j, rest_at s 2 j, rest_at s 3 j) (c.requires.callable j inside)

pub loop-j-preserved : goal.loop-j-preserved
loop-j-preserved g c =
    let s = c.args.s.now in
    let j = c.loop-j.j in
    let inside : j + 3 < length s = omega (arith, simp (length-take, length-drop) at c.loop-j-test.true) in
    let told = rw (rest_at s 1 j, rest_at s 2 j, rest_at s 3 j) at c.cannot-bad.ensures in
    invalid-more _ c.loop-j.invariant c.loop-j-test.true (valid-read s j (c.requires.tells j inside _ told))
