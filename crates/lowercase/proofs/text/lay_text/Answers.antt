use Prim.Native.Nat.{◌+◌}
use native.Mathlib.Omega.{arith}
use Rattle.buffers.proofs.Splice.{length_part}
use Rattle.lowercase.proofs.Running.{none-run, run_room, run-after, run-all, same-room, block_room, run-block}
use Rattle.lowercase.proofs.text.lay_text.Goals as goal

pub loop-i-init : goal.loop-i-init
loop-i-init c = none-run (omega arith)

pub overflow_sub-text : goal.overflow_sub-text
overflow_sub-text c = c.loop-i.invariant.inside

pub lay_block-requires : goal.lay_block-requires
lay_block-requires c =
    block_room c.requires c.loop-i.invariant (c.loop-i.i + 64) (omega arith) (omega arith) c.none_latin.ensures c.if-none_latin.true

pub overflow_add-at : goal.overflow_add-at
overflow_add-at c =
    let i = c.loop-i.i in
    let room = block_room c.requires c.loop-i.invariant (i + 64) (omega arith) (omega arith)
    c.none_latin.ensures c.if-none_latin.true in
    omega (arith, room, same-room c.requires c.loop-i.invariant, length_part c.args.text.now i (i + 64) (omega arith))

pub loop-i-preserved-then-none_latin : goal.loop-i-preserved-then-none_latin
loop-i-preserved-then-none_latin c =
    run-block c.requires c.loop-i.invariant (c.loop-i.i + 64) (omega arith) (omega arith)
    c.none_latin.ensures c.if-none_latin.true (omega arith) c.lay_block.ensures

pub lay_pairs-next-requires : goal.lay_pairs-next-requires
lay_pairs-next-requires c = (run_room c.requires c.loop-i.invariant, omega arith, omega arith, omega arith)

pub loop-i-smaller : goal.loop-i-smaller
loop-i-smaller c = omega (arith, c.lay_pairs-next.ensures.onward)

pub loop-i-preserved : goal.loop-i-preserved
loop-i-preserved c = run-after c.requires c.loop-i.invariant c.lay_pairs-next.ensures

pub lay_pairs-requires : goal.lay_pairs-requires
lay_pairs-requires c = (run_room c.requires c.loop-i.invariant, omega arith, omega arith, omega arith)

pub shape_of-out : goal.shape_of-out
shape_of-out c = same-room c.requires (run-after c.requires c.loop-i.invariant c.lay_pairs.ensures)

pub returns : goal.returns
returns c =
    let last = c.lay_pairs.ensures in
    run-all c.requires (run-after c.requires c.loop-i.invariant last) last.onward
