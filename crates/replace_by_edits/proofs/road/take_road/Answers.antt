use mathlib.Core.Path.{refl}
use native.Mathlib.Omega.{arith}
use Rattle.replace_by_edits.proofs.Travelling.{none-edited, whole, step-ready, next-edited, next-kept, all-edited}
use Rattle.replace_by_edits.proofs.road.take_road.Goals as goal

pub loop-k-init : goal.loop-k-init
loop-k-init c = none-edited c.requires.0 refl c.requires.1 c.most_places-k.ensures

pub place_at-place-requires : goal.place_at-place-requires
place_at-place-requires c = (whole c.requires.0, omega (arith, c.loop-k.invariant.most))

pub edit_held-held-requires : goal.edit_held-held-requires
edit_held-held-requires c =
    step-ready c.requires.0 c.loop-k.invariant (omega (arith, c.loop-k-test.true)) c.place_at-place.ensures c.if-place.true

pub loop-k-preserved-then-place : goal.loop-k-preserved-then-place
loop-k-preserved-then-place c =
    next-edited c.requires.0 c.loop-k.invariant (omega (arith, c.loop-k-test.true)) c.place_at-place.ensures c.if-place.true
    c.edit_held-held.ensures

pub loop-k-preserved : goal.loop-k-preserved
loop-k-preserved c =
    next-kept c.requires.0 c.loop-k.invariant (omega (arith, c.loop-k-test.true)) c.place_at-place.ensures c.if-place.false

pub shape_of-first : goal.shape_of-first
shape_of-first c = c.loop-k.invariant.rooms.first_same.text_left

pub shape_of-first_starts : goal.shape_of-first_starts
shape_of-first_starts c = c.loop-k.invariant.rooms.first_same.starts_left

pub shape_of-first_ends : goal.shape_of-first_ends
shape_of-first_ends c = c.loop-k.invariant.rooms.first_same.ends_left

pub shape_of-second : goal.shape_of-second
shape_of-second c = c.loop-k.invariant.rooms.second_same.text_left

pub shape_of-second_starts : goal.shape_of-second_starts
shape_of-second_starts c = c.loop-k.invariant.rooms.second_same.starts_left

pub shape_of-second_ends : goal.shape_of-second_ends
shape_of-second_ends c = c.loop-k.invariant.rooms.second_same.ends_left

pub returns : goal.returns
returns c = all-edited c.requires.0 c.loop-k.invariant (omega (arith, c.loop-k-test.false))
