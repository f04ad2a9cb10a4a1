use mathlib.Core.Path.{◌∙◌, sym}
use mathlib.Core.Bool.{◌&&◌}
use lib.Dec.{leb}
use lib.ListN.{get_or}
use native.Mathlib.Omega.{arith}
use Rattle.buffers.proofs.Splice.{none_yet, one_more, all-written}
use Rattle.utf8.proofs.LenUtf8.{bool-most}
use Rattle.lowercase.proofs.Bytes.{length-each, each_at}
use Rattle.lowercase.proofs.Pairs.{compared-byte, compared-fits}
use Rattle.lowercase.proofs.text.lay_block.Goals as goal

pub loop-i-init : goal.loop-i-init
loop-i-init c = none_yet

pub overflow_mul-out : goal.overflow_mul-out
overflow_mul-out c =
    let b = get_or c.args.block.now c.loop-i.i 0 in
    omega (arith, bool-most (leb 0x41 b && leb b 0x5A))

pub overflow_add-out : goal.overflow_add-out
overflow_add-out c =
    let i = c.loop-i.i in
    omega (arith, compared-fits (get_or c.args.block.now i 0) (omega (arith, c.type_inv.block i)))

pub bounds-out-at : goal.bounds-out-at
bounds-out-at c = omega (arith, c.loop-i.invariant.same, c.requires)

pub loop-i-preserved : goal.loop-i-preserved
loop-i-preserved c =
    let i = c.loop-i.i in
    let wide = length-each c.args.block.now in
    one_more c.loop-i.invariant (omega (arith, c.requires, wide)) (omega (arith, wide)) (compared-byte (get_or c.args.block.now i 0) ∙ sym (each_at c.args.block.now i (omega arith)))

pub shape_of-out : goal.shape_of-out
shape_of-out c = c.loop-i.invariant.same

pub returns : goal.returns
returns c = all-written c.loop-i.invariant (omega (arith, length-each c.args.block.now))
