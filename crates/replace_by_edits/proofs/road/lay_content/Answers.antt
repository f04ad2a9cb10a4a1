-- The bytes, then what they carry of each column.
use native.Mathlib.Omega.{arith}
use Rattle.replace_by_edits.proofs.Laying.{all-content}
use Rattle.replace_by_edits.proofs.road.lay_content.Goals as goal

pub before_end-requires : goal.before_end-requires
before_end-requires c = let room = c.requires in omega (arith, room.onward, room.in_starts)

pub before_end-requires-2 : goal.before_end-requires-2
before_end-requires-2 c = let room = c.requires in omega (arith, room.onward, room.in_ends)

pub returns : goal.returns
returns c =
    all-content c.copy.ensures c.before_end.ensures c.fill.ensures
    c.before_end-2.ensures c.fill-2.ensures
