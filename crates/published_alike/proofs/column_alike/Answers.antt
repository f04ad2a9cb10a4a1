-- A matched place gives what the content carries, another one what is in it.
use native.Mathlib.Omega.{arith}
use Rattle.published_alike.proofs.Walk.{within, column-empty, column-matched, column-unmatched}
use Rattle.published_alike.proofs.column_alike.Goals as goal

pub returns-then-content_len-eq0 : goal.returns-then-content_len-eq0
returns-then-content_len-eq0 c = column-empty _ _ _ _ c.if-place.true c.if-content_len-eq0.true

pub before_end-requires : goal.before_end-requires
before_end-requires c = (within c.requires).in_one

pub before_end-requires-then-place : goal.before_end-requires-then-place
before_end-requires-then-place c = (within c.requires).in_other

pub returns-then-place : goal.returns-then-place
returns-then-place c =
    column-matched _ _ _ _ c.if-place.true c.if-content_len-eq0.false c.before_end.ensures c.before_end-then-place.ensures

pub slice_bounds-same-count : goal.slice_bounds-same-count
slice_bounds-same-count c = let in_both = within c.requires in omega (arith, in_both.onward, in_both.in_one)

pub slice_bounds-same-start : goal.slice_bounds-same-start
slice_bounds-same-start c = let in_both = within c.requires in omega (arith, in_both.onward, in_both.in_one)

pub slice_bounds-same-end : goal.slice_bounds-same-end
slice_bounds-same-end c = let in_both = within c.requires in omega (arith, in_both.onward, in_both.in_one)

pub slice_bounds-same-count-2 : goal.slice_bounds-same-count-2
slice_bounds-same-count-2 c = let in_both = within c.requires in omega (arith, in_both.onward, in_both.in_other)

pub slice_bounds-same-start-2 : goal.slice_bounds-same-start-2
slice_bounds-same-start-2 c = let in_both = within c.requires in omega (arith, in_both.onward, in_both.in_other)

pub slice_bounds-same-end-2 : goal.slice_bounds-same-end-2
slice_bounds-same-end-2 c = let in_both = within c.requires in omega (arith, in_both.onward, in_both.in_other)

pub returns : goal.returns
returns c = column-unmatched c.args.a.now c.args.b.now c.args.place c.args.content_len c.if-place.false c.same.ensures
