use borrow.Author.Rules.{rules}
use lib.ListN.{length-set}
use native.Mathlib.Omega.{arith}
use Rattle.lowercase.proofs.Pairs.{pair-next, pair-within, pair_inside, other-image, other-room, other-laid, dotted-entry, dotted-room, dotted-last, again-room, dotted-laid, dotted-same}
use Rattle.lowercase.proofs.text.lay_pair.Goals as goal

-- src/text.rt:38:14
pub bounds-text-j : goal.bounds-text-j
bounds-text-j c = search rules

-- src/text.rt:38:14
pub overflow_cast-c : goal.overflow_cast-c
overflow_cast-c c = omega (arith, (pair-within c.requires).1)

-- src/text.rt:38:14
pub overflow_sub-c : goal.overflow_sub-c
overflow_sub-c c = omega (arith, (pair-within c.requires).0)

-- src/text.rt:38:13
pub overflow_mul-c : goal.overflow_mul-c
overflow_mul-c c = omega (arith, (pair-within c.requires).1)

-- src/text.rt:38:50
pub overflow_add-c : goal.overflow_add-c
overflow_add-c c = search rules

-- src/text.rt:38:45
pub bounds-text-j-2 : goal.bounds-text-j-2
bounds-text-j-2 c = pair-next c.requires

-- src/text.rt:38:45
pub overflow_cast-c-2 : goal.overflow_cast-c-2
overflow_cast-c-2 c = omega (arith, (pair-within c.requires).3)

-- src/text.rt:38:45
pub overflow_sub-c-2 : goal.overflow_sub-c-2
overflow_sub-c-2 c = omega (arith, (pair-within c.requires).2)

-- src/text.rt:38:13
pub overflow_add-c-2 : goal.overflow_add-c-2
overflow_add-c-2 c = omega (arith, (pair_inside c.requires).1)

-- src/text.rt:39:23
pub overflow_cast-image : goal.overflow_cast-image
overflow_cast-image c = omega (arith, (pair_inside c.requires).1)

-- src/text.rt:39:17
pub offset_bounds-table-c : goal.offset_bounds-table-c
offset_bounds-table-c c = omega (arith, (pair_inside c.requires).1)

-- src/text.rt:39:17
pub bounds-table-c : goal.bounds-table-c
bounds-table-c c = (pair_inside c.requires).1

-- src/text.rt:41:20
pub overflow_add-out : goal.overflow_add-out
overflow_add-out c = omega (arith, (other-image c.requires c.if-c-ne304.true).1)

-- src/text.rt:41:19
pub overflow_cast-out : goal.overflow_cast-out
overflow_cast-out c = omega (arith, (other-image c.requires c.if-c-ne304.true).1)

-- src/text.rt:41:9
pub bounds-out-at : goal.bounds-out-at
bounds-out-at c = omega (arith, other-room c.requires c.if-c-ne304.true)

-- src/text.rt:42:24
pub overflow_add-out-then-c-ne304 : goal.overflow_add-out-then-c-ne304
overflow_add-out-then-c-ne304 c = search rules

-- src/text.rt:42:23
pub overflow_cast-out-then-c-ne304 : goal.overflow_cast-out-then-c-ne304
overflow_cast-out-then-c-ne304 c = search rules

-- src/text.rt:42:13
pub overflow_add-out-then-c-ne304-2 : goal.overflow_add-out-then-c-ne304-2
overflow_add-out-then-c-ne304-2 c = search rules

-- src/text.rt:42:9
pub bounds-out-at-then-c-ne304 : goal.bounds-out-at-then-c-ne304
bounds-out-at-then-c-ne304 c = simp length-set (omega (arith, other-room c.requires c.if-c-ne304.true))

-- src/text.rt:43:16
pub overflow_add-result : goal.overflow_add-result
overflow_add-result c = search rules

-- src/text.rt:43:9
pub shape_of-out-then-c-ne304 : goal.shape_of-out-then-c-ne304
shape_of-out-then-c-ne304 c = search rules

-- src/text.rt:43:9
pub returns-then-c-ne304 : goal.returns-then-c-ne304
returns-then-c-ne304 c = other-laid c.requires c.if-c-ne304.true

-- src/text.rt:45:15
pub overflow_cast-out-2 : goal.overflow_cast-out-2
overflow_cast-out-2 c = omega (arith, dotted-entry c.requires c.if-c-ne304.false)

-- src/text.rt:45:5
pub bounds-out-at-2 : goal.bounds-out-at-2
bounds-out-at-2 c = omega (arith, dotted-room c.requires c.if-c-ne304.false)

-- src/text.rt:46:9
pub overflow_add-out-2 : goal.overflow_add-out-2
overflow_add-out-2 c = search rules

-- src/text.rt:46:5
pub bounds-out-at-3 : goal.bounds-out-at-3
bounds-out-at-3 c = simp length-set (omega (arith, dotted-room c.requires c.if-c-ne304.false))

-- src/text.rt:47:9
pub overflow_add-out-3 : goal.overflow_add-out-3
overflow_add-out-3 c = search rules

-- src/text.rt:47:5
pub bounds-out-at-4 : goal.bounds-out-at-4
bounds-out-at-4 c = simp length-set (omega (arith, dotted-room c.requires c.if-c-ne304.false))

-- src/text.rt:48:14
pub overflow_add-j : goal.overflow_add-j
overflow_add-j c = search rules

-- src/text.rt:49:16
pub overflow_add-result-then-to-j : goal.overflow_add-result-then-to-j
overflow_add-result-then-to-j c = search rules

-- src/text.rt:49:9
pub shape_of-out-then-to-j : goal.shape_of-out-then-to-j
shape_of-out-then-to-j c = search rules

-- src/text.rt:49:9
pub returns-then-to-j : goal.returns-then-to-j
returns-then-to-j c = dotted-last c.requires c.if-c-ne304.false c.if-to-j.true

-- src/text.rt:51:21
pub overflow_add-j-2 : goal.overflow_add-j-2
overflow_add-j-2 c = search rules

-- src/text.rt:51:15
pub slice_bounds-lay_block-count : goal.slice_bounds-lay_block-count
slice_bounds-lay_block-count c = search rules

-- src/text.rt:51:15
pub slice_bounds-lay_block-start : goal.slice_bounds-lay_block-start
slice_bounds-lay_block-start c = search rules

-- src/text.rt:51:15
pub slice_bounds-lay_block-end : goal.slice_bounds-lay_block-end
slice_bounds-lay_block-end c = search rules

-- src/text.rt:51:38
pub overflow_add-at : goal.overflow_add-at
overflow_add-at c = search rules

-- src/text.rt:51:5
pub lay_block-requires : goal.lay_block-requires
lay_block-requires c = simp length-set (omega (arith, again-room c.requires c.if-c-ne304.false c.if-to-j.false))

-- src/text.rt:52:5
pub overflow_add-result-2 : goal.overflow_add-result-2
overflow_add-result-2 c = search rules

-- src/text.rt:27:1
pub shape_of-out : goal.shape_of-out
shape_of-out c = dotted-same c.requires c.if-c-ne304.false c.if-to-j.false c.lay_block.ensures

-- src/text.rt:27:1
pub returns : goal.returns
returns c = dotted-laid c.requires c.if-c-ne304.false c.if-to-j.false c.lay_block.ensures
