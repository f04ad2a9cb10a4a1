-- What is left of the room, without a sum.
use Rattle.append_prepend.proofs.Joined.{too-little, left_over}
use Rattle.append_prepend.proofs.has_room.Goals as goal

pub returns-then-room-kept : goal.returns-then-room-kept
returns-then-room-kept c = too-little _ _ _ c.if-room-kept.true

pub returns : goal.returns
returns c = left_over _ _ _ c.if-room-kept.false
