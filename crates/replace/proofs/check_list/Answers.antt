-- The list first, then the room.
use mathlib.Core.Path.{ap}
use mathlib.Core.Bool.{not}
use Prim.Native.Nat.{min}
use Rattle.note.specs.Notes.{limit}
use Rattle.replace.proofs.Faults.{not-covering, too_large, small-enough}
use Rattle.replace.proofs.check_list.Goals as goal

pub returns-then-not-covers : goal.returns-then-not-covers
returns-then-not-covers c = not-covering _ _ _ c.covers.ensures (min limit c.args.room) (ap not c.if-not-covers.true)

pub returns-then-least_of_two-size : goal.returns-then-least_of_two-size
returns-then-least_of_two-size c =
    too_large _ _ _ c.covers.ensures limit _ (ap not c.if-not-covers.false) c.result_len-size.ensures c.least_of_two.ensures c.if-least_of_two-size.true

pub returns : goal.returns
returns c =
    small-enough _ _ _ c.covers.ensures limit _ (ap not c.if-not-covers.false) c.result_len-size.ensures c.least_of_two.ensures c.if-least_of_two-size.false
