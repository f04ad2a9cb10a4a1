use native.Mathlib.Omega.{arith}
use Prim.Native.Nat.{◌<◌}
use lib.ListN.{length}
use Rattle.map_columns.proofs.Spread.{more-text, char-room, one-spread, all-spread}
use Rattle.map_columns.proofs.lay_chars.Goals as goal
use Rattle.map_columns.proofs.lay_chars.Goals.{After-select-size}

-- a turn has one more byte to read
more : (c : After-select-size) → c.loop-i.q < length c.args.text.now
more c = more-text c.requires c.loop-i.invariant c.loop-i-test.true

pub bounds-text-q : goal.bounds-text-q
bounds-text-q c = more-text c.requires c.loop-i.invariant c.loop-i-test.true

pub bounds-starts-q : goal.bounds-starts-q
bounds-starts-q c =
    omega (arith, more (goal.at.bounds-starts-q c).After-select-size, c.requires.starts_room.one_each)

pub fill_char-requires : goal.fill_char-requires
fill_char-requires c =
    char-room c.requires.starts_room c.loop-i.invariant.starts_carried c.loop-i-test.true (more (goal.at.fill_char-requires c).After-select-size) c.continues-lead.ensures c.len_utf8.ensures c.select-size.ensures

pub bounds-ends-q : goal.bounds-ends-q
bounds-ends-q c =
    omega (arith, more (goal.at.bounds-ends-q c).After-select-size, c.requires.ends_room.one_each)

pub fill_char-requires-in-loop-i : goal.fill_char-requires-in-loop-i
fill_char-requires-in-loop-i c =
    char-room c.requires.ends_room c.loop-i.invariant.ends_carried c.loop-i-test.true (more (goal.at.fill_char-requires-in-loop-i c).After-select-size) c.continues-lead.ensures c.len_utf8.ensures c.select-size.ensures

pub loop-i-smaller : goal.loop-i-smaller
loop-i-smaller c = omega (arith, more (goal.at.loop-i-smaller c).After-select-size)

pub loop-i-preserved : goal.loop-i-preserved
loop-i-preserved c =
    one-spread c.requires c.loop-i.invariant c.loop-i-test.true
    c.continues-lead.ensures c.len_utf8.ensures c.select-size.ensures
    c.fill_char.ensures c.fill_char-in-loop-i.ensures

pub returns : goal.returns
returns c = all-spread c.requires c.loop-i.invariant c.loop-i-test.false
