use Prim.Native.Nat.{◌+◌, ◌≤◌, ◌<◌}
use mathlib.Core.Bool.{not}
use mir.Val.{bool_byte}
use lib.ListN.{length}
use Rattle.filter_blocks.proofs.Chosen.{rooms, reads, flag-index, one-so-far, all-so-far}
use native.Mathlib.Omega.{arith}
use Rattle.filter_blocks.proofs.lay_rest.Goals as goal
use Rattle.filter_blocks.proofs.lay_rest.Goals.{In-loop-q, After-continues}

-- what a turn reads is there, there is room for it, and its flag is there
there : (c : In-loop-q) → (c.loop-q.q < length c.args.text.now) × ((c.loop-q.q < length c.args.starts.now) × (c.loop-q.q < length c.args.ends.now))
there c = reads c.requires.0 c.loop-q.invariant c.loop-q-test.true

room : (c : In-loop-q) → (c.loop-q.at < length c.loop-q.out) × ((c.loop-q.at < length c.loop-q.out_starts) × (c.loop-q.at < length c.loop-q.out_ends))
room c = rooms c.requires.0 c.loop-q.invariant c.loop-q-test.true

index : (c : After-continues) → (1 ≤ c.loop-q.i + bool_byte (not c.continues.result)) × (c.loop-q.i + bool_byte (not c.continues.result) ≤ length c.args.flags.now)
index c = flag-index c.requires.0 c.loop-q.invariant c.loop-q-test.true c.continues.ensures

pub loop-q-init : goal.loop-q-init
loop-q-init c = c.requires.1

pub bounds-text-q : goal.bounds-text-q
bounds-text-q c = (there (goal.at.bounds-text-q c).In-loop-q).0

pub overflow_add-i : goal.overflow_add-i
overflow_add-i c = omega (arith, index c)

pub bounds-text-q-in-loop-q : goal.bounds-text-q-in-loop-q
bounds-text-q-in-loop-q c = (there (goal.at.bounds-text-q-in-loop-q c).In-loop-q).0

pub bounds-out-at : goal.bounds-out-at
bounds-out-at c = (room (goal.at.bounds-out-at c).In-loop-q).0

pub offset_bounds-starts-q : goal.offset_bounds-starts-q
offset_bounds-starts-q c = omega (arith, there (goal.at.offset_bounds-starts-q c).In-loop-q)

pub bounds-starts-q : goal.bounds-starts-q
bounds-starts-q c = (there (goal.at.bounds-starts-q c).In-loop-q).1.0

pub offset_bounds-out_starts-at : goal.offset_bounds-out_starts-at
offset_bounds-out_starts-at c = omega (arith, room (goal.at.offset_bounds-out_starts-at c).In-loop-q)

pub bounds-out_starts-at : goal.bounds-out_starts-at
bounds-out_starts-at c = (room (goal.at.bounds-out_starts-at c).In-loop-q).1.0

pub offset_bounds-ends-q : goal.offset_bounds-ends-q
offset_bounds-ends-q c = omega (arith, there (goal.at.offset_bounds-ends-q c).In-loop-q)

pub bounds-ends-q : goal.bounds-ends-q
bounds-ends-q c = (there (goal.at.bounds-ends-q c).In-loop-q).1.1

pub offset_bounds-out_ends-at : goal.offset_bounds-out_ends-at
offset_bounds-out_ends-at c = omega (arith, room (goal.at.offset_bounds-out_ends-at c).In-loop-q)

pub bounds-out_ends-at : goal.bounds-out_ends-at
bounds-out_ends-at c = (room (goal.at.bounds-out_ends-at c).In-loop-q).1.1

pub overflow_sub-at : goal.overflow_sub-at
overflow_sub-at c = (index (goal.at.overflow_sub-at c).After-continues).0

pub bounds-flags-i : goal.bounds-flags-i
bounds-flags-i c = omega (arith, index (goal.at.bounds-flags-i c).After-continues)

pub overflow_add-at : goal.overflow_add-at
overflow_add-at c =
    let next = one-so-far c.requires.0 c.loop-q.invariant c.loop-q-test.true c.continues.ensures in
    omega (arith, next.laid.text.room, next.laid.text.same)

pub loop-q-preserved : goal.loop-q-preserved
loop-q-preserved c = one-so-far c.requires.0 c.loop-q.invariant c.loop-q-test.true c.continues.ensures

pub shape_of-out : goal.shape_of-out
shape_of-out c = c.loop-q.invariant.laid.text.same

pub shape_of-out_starts : goal.shape_of-out_starts
shape_of-out_starts c = c.loop-q.invariant.laid.starts_so_far.same

pub shape_of-out_ends : goal.shape_of-out_ends
shape_of-out_ends c = c.loop-q.invariant.laid.ends_so_far.same

pub returns : goal.returns
returns c = all-so-far c.requires.0 c.loop-q.invariant c.loop-q-test.false
