use mathlib.Core.Path.{◌∙◌, sym}
use native.Mathlib.Omega.{arith}
use lib.ListN.{length}
use Prim.Native.Nat.{◌<◌}
use Rattle.convert_list.proofs.TwoReads.{expandable-most, has-byte, has_end, answer-reads, answer-converted}
use Rattle.convert_list.proofs.Answering.{none_between, one-expanded, one-answered, between_done}
use Rattle.convert_list.proofs.convert_between.Goals as goal
use Rattle.convert_list.proofs.convert_between.Goals.{then-expands, else-expands}

pub overflow_cast-len : goal.overflow_cast-len
overflow_cast-len c =
    omega (arith, c.expandable-len.ensures, expandable-most c.args.side (length c.args.ends.now), c.requires.ordered_columns.few)

pub loop-i-init : goal.loop-i-init
loop-i-init c = (c.requires.ranges_between.onward, none_between)

pub bounds-from-i : goal.bounds-from-i
bounds-from-i c = let known = c.requires.ranges_between in omega (arith, known.inside, known.room.same)

pub bounds-to-i : goal.bounds-to-i
bounds-to-i c = let known = c.requires.ranges_between in omega (arith, known.inside, known.room.same)

pub first_start-requires : goal.first_start-requires
first_start-requires c =
    let so = sym c.expands.ensures ∙ c.if-expands.true in
    omega (arith, c.requires.ordered_columns.paired, has-byte _ _ _ so, has_end _ _ _ so, c.expandable-len.ensures, expandable-most c.args.side (length c.args.ends.now))

pub bounds-out_starts-i : goal.bounds-out_starts-i
bounds-out_starts-i c =
    let known = c.requires.ranges_between in omega (arith, c.loop-i.invariant.1.starts_are.same, known.inside, known.room.of_starts)

pub last_end-requires : goal.last_end-requires
last_end-requires c =
    let so = sym c.expands.ensures ∙ c.if-expands.true in
    (omega (arith, has-byte _ _ _ so), omega (arith, has_end _ _ _ so, c.expandable-len.ensures, expandable-most c.args.side (length c.args.ends.now)))

pub bounds-out_ends-i : goal.bounds-out_ends-i
bounds-out_ends-i c =
    let known = c.requires.ranges_between in omega (arith, c.loop-i.invariant.1.ends_are.same, known.inside, known.room.of_ends)

pub convert_checked-answer-requires : goal.convert_checked-answer-requires
convert_checked-answer-requires c = c.requires.ordered_columns

pub bounds-numbers-i : goal.bounds-numbers-i
bounds-numbers-i c =
    let known = c.requires.ranges_between in omega (arith, c.loop-i.invariant.1.numbers_are.same, known.inside, known.room.of_numbers)

pub bounds-out_starts-i-else-expands : goal.bounds-out_starts-i-else-expands
bounds-out_starts-i-else-expands c =
    let known = c.requires.ranges_between in omega (arith, c.loop-i.invariant.1.starts_are.same, known.inside, known.room.of_starts)

pub bounds-out_ends-i-else-expands : goal.bounds-out_ends-i-else-expands
bounds-out_ends-i-else-expands c =
    let known = c.requires.ranges_between in omega (arith, c.loop-i.invariant.1.ends_are.same, known.inside, known.room.of_ends)

pub loop-i-preserved : goal.loop-i-preserved
loop-i-preserved c =
    let known = c.requires.ranges_between in
    let more : c.loop-i.i < c.args.past = omega arith in (
      omega arith,
      elim c.if-expands.branch [
        | then-expands w ↦
            one-expanded known c.loop-i.invariant.1 more
            (answer-reads _ _ _ _ _ _ c.expandable-len.ensures (sym c.expands.ensures ∙ w.if-expands.true) w.first_start.ensures w.last_end.ensures)
            w.numbers-is w.out_starts-is w.out_ends-is
        | else-expands w ↦
            one-answered known c.loop-i.invariant.1 more
            (answer-converted _ _ _ _ _ _ w.range_of.ensures w.convert_checked-answer.ensures)
            w.number_in.ensures w.start_in.ensures w.end_in.ensures w.numbers-is w.out_starts-is w.out_ends-is
      ],
    )

pub shape_of-numbers : goal.shape_of-numbers
shape_of-numbers c = c.loop-i.invariant.1.numbers_are.same

pub shape_of-out_starts : goal.shape_of-out_starts
shape_of-out_starts c = c.loop-i.invariant.1.starts_are.same

pub shape_of-out_ends : goal.shape_of-out_ends
shape_of-out_ends c = c.loop-i.invariant.1.ends_are.same

pub returns : goal.returns
returns c = between_done c.loop-i.invariant.1 (omega arith)
