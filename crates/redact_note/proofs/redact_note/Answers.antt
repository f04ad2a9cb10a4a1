-- The inputs are judged together, then the rooms; past both everything is written.
use mathlib.Core.Path.{ap}
use mathlib.Core.Bool.{not}
use mathlib.Core.Path.{refl}
use Rattle.buffers.proofs.Cases.{passed-on}
use Rattle.redact_note.proofs.Redacting.{inputs-formed, inputs-refused, rooms-refused, all-accepted, refused_all, all-blankable, all-blanked}
use Rattle.redact_note.proofs.redact_note.Goals as goal

pub returns-in_err-check_inputs : goal.returns-in_err-check_inputs
returns-in_err-check_inputs c = rw (passed-on _ c.from_residual.ensures.1) (refused_all _ _ _ _ _ _ _ refl (inputs-refused _ _ _ _ _ c.check_inputs.ensures c.in_err-check_inputs.was))

pub count_matches-count-requires : goal.count_matches-count-requires
count_matches-count-requires c =
    ((inputs-formed _ _ _ c.check_inputs.ensures c.in_ok-check_inputs.was).short, c.first_match-first.ensures)

pub rooms_fit-requires : goal.rooms_fit-requires
rooms_fit-requires c = (
  record { short = (inputs-formed _ _ _ c.check_inputs.ensures c.in_ok-check_inputs.was).short; first_is = c.first_match-first.ensures },
  c.count_matches-count.ensures,
)

pub returns-then-not-rooms_fit : goal.returns-then-not-rooms_fit
returns-then-not-rooms_fit c =
    refused_all _ _ _ _ _ _ _ c.least_room-room.ensures
    (rooms-refused _ _ _ _ _ c.check_inputs.ensures c.in_ok-check_inputs.was c.rooms_fit.ensures (ap not c.if-not-rooms_fit.true))

pub blank-size-requires : goal.blank-size-requires
blank-size-requires c =
    all-blankable _ _ _ _ _ _ _ c.least_room-room.ensures
    (all-accepted _ _ _ _ _ c.check_inputs.ensures c.in_ok-check_inputs.was c.rooms_fit.ensures (ap not c.if-not-rooms_fit.false))
    c.first_match-first.ensures

pub returns : goal.returns
returns c =
    all-blanked _ _ _ _ _ _ _ c.least_room-room.ensures
    (all-accepted _ _ _ _ _ c.check_inputs.ensures c.in_ok-check_inputs.was c.rooms_fit.ensures (ap not c.if-not-rooms_fit.false))
    c.count_matches-count.ensures c.blank-size.ensures
