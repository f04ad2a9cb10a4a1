-- The inputs are judged together, then the room; past both everything is laid.
use mathlib.Core.Path.{ap}
use mathlib.Core.Bool.{not}
use mathlib.Core.Path.{refl}
use Rattle.buffers.proofs.Cases.{passed-on}
use Rattle.redact.proofs.Redacting.{inputs-refused, room-refused, all-accepted, refused_all, all-fitting, all-resized, all-blanked}
use Rattle.redact.proofs.redact.Goals as goal

pub returns-in_err-check_inputs : goal.returns-in_err-check_inputs
returns-in_err-check_inputs c = rw (passed-on _ c.from_residual.ensures.1) (refused_all _ _ _ _ _ _ refl (inputs-refused _ _ _ _ c.check_inputs.ensures c.in_err-check_inputs.was))

pub returns-then-not-result_fits : goal.returns-then-not-result_fits
returns-then-not-result_fits c =
    refused_all _ _ _ _ _ _ c.least_room.ensures
    (room-refused _ _ _ _ c.check_inputs.ensures c.in_ok-check_inputs.was c.least_of_two-room.ensures c.result_fits.ensures (ap not c.if-not-result_fits.true))

pub blank_found-size-requires : goal.blank_found-size-requires
blank_found-size-requires c =
    all-fitting _ _ _ _ _ _ c.least_room.ensures
    (all-accepted _ _ _ _ c.check_inputs.ensures c.in_ok-check_inputs.was c.least_of_two-room.ensures c.result_fits.ensures (ap not c.if-not-result_fits.false))
    c.first_match-first.ensures

pub match_count-count-requires : goal.match_count-count-requires
match_count-count-requires c =
    all-resized _ _ _ _ _ _ c.least_room.ensures
    (all-accepted _ _ _ _ c.check_inputs.ensures c.in_ok-check_inputs.was c.least_of_two-room.ensures c.result_fits.ensures (ap not c.if-not-result_fits.false))
    c.first_match-first.ensures c.blank_found-size.ensures

pub returns : goal.returns
returns c =
    all-blanked _ _ _ _ _ _ c.least_room.ensures
    (all-accepted _ _ _ _ c.check_inputs.ensures c.in_ok-check_inputs.was c.least_of_two-room.ensures c.result_fits.ensures (ap not c.if-not-result_fits.false))
    c.blank_found-size.ensures c.match_count-count.ensures
