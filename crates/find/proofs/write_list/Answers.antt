use mathlib.Core.Path.{ap}
use native.Mathlib.Omega.{arith}
use lib.ListN.{length}
use Rattle.find.proofs.MatchesFrom.{first-there, match-inside}
use Rattle.find.proofs.FoundPlaces.{place-writable}
use Rattle.find.proofs.Found.{none-listed, room-between, room-match, next-listed, all_listed, whole-bytes, whole-listed}
use Rattle.find.proofs.write_list.Goals as goal

pub place_from-requires : goal.place_from-requires
place_from-requires c = (omega arith, omega arith)

pub write_place-requires : goal.write_place-requires
write_place-requires c =
    let is = c.place_from.ensures in
    let pre = c.requires in
    (place-writable is (omega arith) (omega arith), omega (arith, pre.2, ap length (whole-bytes _ _ pre.1 c.if-first-text.true is)))

pub returns-then-first-text : goal.returns-then-first-text
returns-then-first-text c = whole-listed _ _ c.requires.1 c.if-first-text.true c.place_from.ensures c.write_place.ensures

pub loop-start-init : goal.loop-start-init
loop-start-init c = none-listed c.requires.1 c.if-first-text.false c.requires.2

pub write_between-i-requires : goal.write_between-i-requires
write_between-i-requires c = room-between c.loop-start.invariant c.requires.0

pub overflow_add-at : goal.overflow_add-at
overflow_add-at c = omega (arith, match-inside c.loop-start.invariant.stands c.loop-start-test.true)

pub place_from-requires-in-loop-start : goal.place_from-requires-in-loop-start
place_from-requires-in-loop-start c =
    let inside = match-inside c.loop-start.invariant.stands c.loop-start-test.true in
    (omega (arith, c.requires.0), omega (arith, c.requires.0, inside))

pub write_place-i-requires : goal.write_place-i-requires
write_place-i-requires c =
    let is = c.place_from-in-loop-start.ensures in
    let inside = match-inside c.loop-start.invariant.stands c.loop-start-test.true in
    let short = c.requires.0 in
    (place-writable is (omega (arith, short)) (omega (arith, short, inside)), room-match c.loop-start.invariant c.write_between-i.ensures c.loop-start-test.true is)

pub next_match-start-requires : goal.next_match-start-requires
next_match-start-requires c =
    (c.loop-start.invariant.stands.some, match-inside c.loop-start.invariant.stands c.loop-start-test.true)

pub loop-start-smaller : goal.loop-start-smaller
loop-start-smaller c =
    let s = c.loop-start.invariant.stands in
    omega (arith, s.some, (first-there s).from, match-inside s c.loop-start-test.true)

pub loop-start-preserved : goal.loop-start-preserved
loop-start-preserved c =
    next-listed c.loop-start.invariant c.write_between-i.ensures c.loop-start-test.true
    c.place_from-in-loop-start.ensures c.write_place-i.ensures c.next_match-start.ensures

pub write_between-requires : goal.write_between-requires
write_between-requires c = room-between c.loop-start.invariant c.requires.0

pub returns : goal.returns
returns c = all_listed c.loop-start.invariant c.write_between.ensures c.loop-start-test.false
