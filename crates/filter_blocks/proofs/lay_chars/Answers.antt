use native.Mathlib.Omega.{arith}
use Rattle.filter_blocks.proofs.Chars.{none-between-chars, char-there, char-inside, text-four, starts-four, ends-four, one-between-chars, all-between-chars}
use Rattle.filter_blocks.proofs.lay_chars.Goals as goal

pub loop-i-init : goal.loop-i-init
loop-i-init c = none-between-chars c.requires

pub bounds-text-q : goal.bounds-text-q
bounds-text-q c = (char-there c.requires c.loop-i.invariant c.loop-i-test.true).0

pub copy_block-requires : goal.copy_block-requires
copy_block-requires c = text-four c.requires c.loop-i.invariant c.loop-i-test.true

pub copy_block-requires-in-loop-i : goal.copy_block-requires-in-loop-i
copy_block-requires-in-loop-i c = starts-four c.requires c.loop-i.invariant c.loop-i-test.true

pub copy_block-requires-in-loop-i-2 : goal.copy_block-requires-in-loop-i-2
copy_block-requires-in-loop-i-2 c = ends-four c.requires c.loop-i.invariant c.loop-i-test.true

pub bounds-flags-i : goal.bounds-flags-i
bounds-flags-i c = (char-there c.requires c.loop-i.invariant c.loop-i-test.true).1

pub overflow_add-at : goal.overflow_add-at
overflow_add-at c =
    let next =
    one-between-chars c.requires c.loop-i.invariant c.loop-i-test.true c.lead_len-size.ensures
    c.copy_block.ensures c.copy_block-in-loop-i.ensures
    c.copy_block-in-loop-i-2.ensures c.kept_len-at.ensures in
    omega (arith, next.laid.text.room, next.laid.text.same)

pub overflow_add-q : goal.overflow_add-q
overflow_add-q c =
    omega (arith, char-inside c.requires c.loop-i.invariant c.loop-i-test.true c.lead_len-size.ensures)

pub loop-i-preserved : goal.loop-i-preserved
loop-i-preserved c =
    one-between-chars c.requires c.loop-i.invariant c.loop-i-test.true c.lead_len-size.ensures
    c.copy_block.ensures c.copy_block-in-loop-i.ensures
    c.copy_block-in-loop-i-2.ensures c.kept_len-at.ensures

pub shape_of-out : goal.shape_of-out
shape_of-out c = c.loop-i.invariant.laid.text.same

pub shape_of-out_starts : goal.shape_of-out_starts
shape_of-out_starts c = c.loop-i.invariant.laid.starts_so_far.same

pub shape_of-out_ends : goal.shape_of-out_ends
shape_of-out_ends c = c.loop-i.invariant.laid.ends_so_far.same

pub returns : goal.returns
returns c = all-between-chars c.requires c.loop-i.invariant c.loop-i-test.false (omega arith)
