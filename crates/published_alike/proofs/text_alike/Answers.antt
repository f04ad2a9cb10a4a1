-- A matched place gives the same of any two texts; another one what is in it.
use native.Mathlib.Omega.{arith}
use Rattle.published_alike.proofs.Walk.{within, text-matched, text-unmatched}
use Rattle.published_alike.proofs.text_alike.Goals as goal

pub returns-then-place : goal.returns-then-place
returns-then-place c = text-matched _ _ _ c.if-place.true

pub slice_bounds-same-count : goal.slice_bounds-same-count
slice_bounds-same-count c = let in_both = within c.requires in omega (arith, in_both.onward, in_both.in_one)

pub slice_bounds-same-start : goal.slice_bounds-same-start
slice_bounds-same-start c = let in_both = within c.requires in omega (arith, in_both.onward, in_both.in_one)

pub slice_bounds-same-end : goal.slice_bounds-same-end
slice_bounds-same-end c = let in_both = within c.requires in omega (arith, in_both.onward, in_both.in_one)

pub slice_bounds-same-count-2 : goal.slice_bounds-same-count-2
slice_bounds-same-count-2 c = let in_both = within c.requires in omega (arith, in_both.onward, in_both.in_other)

pub slice_bounds-same-start-2 : goal.slice_bounds-same-start-2
slice_bounds-same-start-2 c = let in_both = within c.requires in omega (arith, in_both.onward, in_both.in_other)

pub slice_bounds-same-end-2 : goal.slice_bounds-same-end-2
slice_bounds-same-end-2 c = let in_both = within c.requires in omega (arith, in_both.onward, in_both.in_other)

pub returns : goal.returns
returns c = text-unmatched c.args.a.now c.args.b.now c.args.place c.if-place.false c.same.ensures
