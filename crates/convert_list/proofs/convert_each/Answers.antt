use Prim.Native.Nat.{ℕ, ◌+◌, ◌*◌, ◌/◌, ◌%◌, ◌<◌, min}
use mathlib.Core.Path.{◌≡◌, ◌∙◌, sym}
use native.Mathlib.Omega.{arith}
use lib.ListN.{length, length-take, length-drop}
use Rattle.convert_list.proofs.TwoReads.{expandable-most}
use Rattle.convert_list.proofs.Answering.{none-answered, between, more-answered, block-answered, readable, reads, all-answered, zeroed-room, zeros-long}
use Rattle.convert_list.proofs.convert_each.Goals as goal
use Rattle.convert_list.proofs.convert_each.Goals.{then-all_expand, else-all_expand}

-- a block's first range is there, and the next block begins where it ends
block-first : (n k : ℕ) → k < n / 64 + min 1 (n % 64) → (min n (64 * k) ≡ 64 * k) × (64 * k < n)
block-first n k h = (omega arith, omega arith)

block-next : (n k : ℕ) → min n (64 * (k + 1)) ≡ min n (64 * k + 64)
block-next n k = omega arith

pub fill-requires : goal.fill-requires
fill-requires c = omega (arith, c.requires.answer_room.of_numbers)

pub overflow_cast-len : goal.overflow_cast-len
overflow_cast-len c =
    omega (arith, c.expandable-len.ensures, expandable-most c.args.side (length c.args.ends.now), c.requires.ordered_columns.few)

pub loop-k-init : goal.loop-k-init
loop-k-init c =
    let none : min (length c.args.from.now) 0 ≡ 0 = omega arith in
    rw none (none-answered _ c.requires.answer_room.of_numbers c.fill.ensures)

pub slice_bounds-all_expand-end-in-loop-k : goal.slice_bounds-all_expand-end-in-loop-k
slice_bounds-all_expand-end-in-loop-k c = omega (arith, c.requires.answer_room.same)

pub all_expand-requires : goal.all_expand-requires
all_expand-requires c = simp (length-take, length-drop) (omega (arith, c.requires.answer_room.same))

pub slice_bounds-expand_block-end-then-all_expand : goal.slice_bounds-expand_block-end-then-all_expand
slice_bounds-expand_block-end-then-all_expand c = omega (arith, c.requires.answer_room.same)

pub expand_block-requires : goal.expand_block-requires
expand_block-requires c =
    let room = zeroed-room _ c.requires.answer_room c.fill.ensures in
    let first = block-first (length c.args.from.now) c.loop-k.k (omega arith) in
    let here = between room (rw first.0 at c.loop-k.invariant) first.1 c.least_of_two-past.ensures in
    readable c.args.side c.requires.ordered_columns here
    c.expandable-len.ensures (c.all_expand.ensures c.if-all_expand.true)

pub convert_between-requires : goal.convert_between-requires
convert_between-requires c =
    let room = zeroed-room _ c.requires.answer_room c.fill.ensures in
    let first = block-first (length c.args.from.now) c.loop-k.k (omega arith) in
    record { ordered_columns = c.requires.ordered_columns; ranges_between = between room (rw first.0 at c.loop-k.invariant) first.1 c.least_of_two-past.ensures }

pub loop-k-preserved : goal.loop-k-preserved
loop-k-preserved c =
    let room = zeroed-room _ c.requires.answer_room c.fill.ensures in
    let first = block-first (length c.args.from.now) c.loop-k.k (omega arith) in
    let so_far = rw first.0 at c.loop-k.invariant in
    let past = c.least_of_two-past.ensures in
    let next = past ∙ sym (block-next (length c.args.from.now) c.loop-k.k) in
    elim c.if-all_expand.branch [
      | then-all_expand w ↦
          let so = c.all_expand.ensures w.if-all_expand.true in
          let here = between room so_far first.1 past in
          rw (← next, w.numbers-is, w.out_starts-is, w.out_ends-is)
          (more-answered room so_far first.1 past
          (block-answered room so_far first.1 past _ _ (reads c.args.side c.requires.ordered_columns here c.expandable-len.ensures so) w.expand_block.ensures))
      | else-all_expand w ↦
          rw (← next, w.numbers-is, w.out_starts-is, w.out_ends-is) (more-answered room so_far first.1 past w.convert_between.ensures)
    ]

pub shape_of-numbers : goal.shape_of-numbers
shape_of-numbers c =
    c.loop-k.invariant.columns.first.same ∙ zeros-long _ _ c.requires.answer_room.of_numbers c.fill.ensures

pub shape_of-out_starts : goal.shape_of-out_starts
shape_of-out_starts c = c.loop-k.invariant.columns.second.same

pub shape_of-out_ends : goal.shape_of-out_ends
shape_of-out_ends c = c.loop-k.invariant.columns.third.same

pub returns : goal.returns
returns c = all-answered c.requires.answer_room c.fill.ensures c.loop-k.invariant (omega arith)
