use Prim.Native.Nat.{◌^◌, ◌<◌}
use lib.ListN.{length}
use native.Mathlib.Omega.{arith}
use Rattle.lowercase.proofs.Fixing.{places-few, block-fits, places-room, begun, out-same, end-room, place_inside, place-ready, place-fixed, all-inside, all_past}
use Rattle.lowercase.proofs.text.lay_pairs.Goals as goal

pub lay_block-requires : goal.lay_block-requires
lay_block-requires c = let given = c.requires in block-fits given.0 given.1 given.2

pub latin_places-count-requires : goal.latin_places-count-requires
latin_places-count-requires c = let given = c.requires in places-room given.0 given.1 given.2 given.3

pub loop-q-init : goal.loop-q-init
loop-q-init c = let given = c.requires in begun given.0 given.1 given.2 c.lay_block.ensures

pub bounds-places-q : goal.bounds-places-q
bounds-places-q c =
    let given = c.requires in
    omega (arith, places-few c.latin_places-count.ensures, (places-room given.0 given.1 given.2 given.3).0)

pub overflow_cast-j : goal.overflow_cast-j
overflow_cast-j c =
    let given = c.requires in
    omega (arith, (place_inside given.0 given.1 given.2 c.lay_block.ensures c.latin_places-count.ensures c.loop-q.invariant (omega arith)).1, given.2)

pub overflow_add-j : goal.overflow_add-j
overflow_add-j c =
    let given = c.requires in
    omega (arith, (place_inside given.0 given.1 given.2 c.lay_block.ensures c.latin_places-count.ensures c.loop-q.invariant (omega arith)).1, given.2)

pub overflow_sub-j : goal.overflow_sub-j
overflow_sub-j c =
    let given = c.requires in
    (place_inside given.0 given.1 given.2 c.lay_block.ensures c.latin_places-count.ensures c.loop-q.invariant (omega arith)).0

pub overflow_add-at : goal.overflow_add-at
overflow_add-at c =
    let given = c.requires in
    let ready = place-ready given.0 given.1 given.2 c.lay_block.ensures c.latin_places-count.ensures c.loop-q.invariant (omega arith) in
    let long : length c.args.out.now < 2 ^ 64 = c.well_formed.1.1.1.1.0.0 in
    omega (arith, ready.room, out-same given.0 given.1 given.2 c.lay_block.ensures c.latin_places-count.ensures c.loop-q.invariant)

pub lay_pair-at-requires : goal.lay_pair-at-requires
lay_pair-at-requires c =
    let given = c.requires in
    place-ready given.0 given.1 given.2 c.lay_block.ensures c.latin_places-count.ensures c.loop-q.invariant (omega arith)

pub overflow_add-i : goal.overflow_add-i
overflow_add-i c =
    let given = c.requires in
    omega (arith, (place_inside given.0 given.1 given.2 c.lay_block.ensures c.latin_places-count.ensures c.loop-q.invariant (omega arith)).1, given.2)

pub loop-q-preserved : goal.loop-q-preserved
loop-q-preserved c =
    let given = c.requires in
    place-fixed given.0 given.1 given.2 c.lay_block.ensures c.latin_places-count.ensures c.loop-q.invariant (omega arith) c.lay_pair-at.ensures

pub overflow_add-result : goal.overflow_add-result
overflow_add-result c =
    let given = c.requires in
    let long : length c.args.out.now < 2 ^ 64 = c.well_formed.1.1.1.1.0.0 in
    omega (arith, end-room given.0 given.1 given.2 c.lay_block.ensures c.latin_places-count.ensures c.loop-q.invariant)

pub shape_of-out-then-i-to : goal.shape_of-out-then-i-to
shape_of-out-then-i-to c =
    let given = c.requires in
    out-same given.0 given.1 given.2 c.lay_block.ensures c.latin_places-count.ensures c.loop-q.invariant

pub returns-then-i-to : goal.returns-then-i-to
returns-then-i-to c =
    let given = c.requires in
    all-inside given.0 given.1 given.2 c.lay_block.ensures c.latin_places-count.ensures c.loop-q.invariant c.loop-q-test.false c.if-i-to.true

pub shape_of-out : goal.shape_of-out
shape_of-out c =
    let given = c.requires in
    out-same given.0 given.1 given.2 c.lay_block.ensures c.latin_places-count.ensures c.loop-q.invariant

pub returns : goal.returns
returns c =
    let given = c.requires in
    all_past given.0 given.1 given.2 c.lay_block.ensures c.latin_places-count.ensures c.loop-q.invariant c.loop-q-test.false c.if-i-to.false
