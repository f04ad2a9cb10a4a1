-- The inputs are judged, the steps are taken, the rooms are judged; past all that everything is told.
use mathlib.Core.Path.{sym}
use native.Mathlib.Omega.{arith}
use lib.Seq.{length-take-le}
use Rattle.buffers.proofs.Cases.{passed-on}
use Rattle.redact_in_place.proofs.Holding.{text-within, starts-within, ends-within}
use Rattle.redact_all.proofs.Entry.{inputs-checked, steps-left, steps-short, refused-input, refused-steps, refused-text, refused-columns, counts-within, all-tellable, all-published}
use Rattle.redact_all.proofs.redact_all.Goals as goal

pub returns-in_err-check_inputs : goal.returns-in_err-check_inputs
returns-in_err-check_inputs c = rw (passed-on _ c.from_residual.ensures.1) (refused-input _ _ _ _ c.check_inputs.ensures c.in_err-check_inputs.was)

pub take_steps-requires : goal.take_steps-requires
take_steps-requires c = (
  inputs-checked _ _ _ c.check_inputs.ensures c.in_ok-check_inputs.was,
  record { text_long = c.text_buffer-text.ensures; starts_long = c.column_buffer-text_starts.ensures; ends_long = c.column_buffer-text_ends.ensures; counts_long = c.counts_buffer-counts.ensures },
)

pub returns-in_default : goal.returns-in_default
returns-in_default c =
    refused-steps _ _ _ _ c.check_inputs.ensures c.in_ok-check_inputs.was
    (steps-short _ _ _ _ _ _ _ _ _ _ c.take_steps.ensures c.in_default.is)

pub returns-then-least_room-size : goal.returns-then-least_room-size
returns-then-least_room-size c =
    refused-text _ _ _ _ c.check_inputs.ensures c.in_ok-check_inputs.was
    (steps-left _ _ _ _ _ _ _ _ _ _ c.take_steps.ensures c.in-Some.is) (omega (arith, c.if-least_room-size.true, c.least_room.ensures))

pub returns-then-least_room-pairs : goal.returns-then-least_room-pairs
returns-then-least_room-pairs c =
    refused-columns _ _ _ _ c.check_inputs.ensures c.in_ok-check_inputs.was
    (steps-left _ _ _ _ _ _ _ _ _ _ c.take_steps.ensures c.in-Some.is)
    (omega (arith, c.if-least_room-size.false, c.least_room.ensures)) (omega (arith, c.if-least_room-pairs.true, c.least_room-2.ensures))

pub slice_bounds-text-end : goal.slice_bounds-text-end
slice_bounds-text-end c = text-within (steps-left _ _ _ _ _ _ _ _ _ _ c.take_steps.ensures c.in-Some.is).is_held

pub slice_bounds-tell-end : goal.slice_bounds-tell-end
slice_bounds-tell-end c =
    sym (length-take-le _ _ (text-within (steps-left _ _ _ _ _ _ _ _ _ _ c.take_steps.ensures c.in-Some.is).is_held))

pub slice_bounds-text_starts-end : goal.slice_bounds-text_starts-end
slice_bounds-text_starts-end c = starts-within (steps-left _ _ _ _ _ _ _ _ _ _ c.take_steps.ensures c.in-Some.is).is_held

pub slice_bounds-tell-end-2 : goal.slice_bounds-tell-end-2
slice_bounds-tell-end-2 c =
    sym (length-take-le _ _ (starts-within (steps-left _ _ _ _ _ _ _ _ _ _ c.take_steps.ensures c.in-Some.is).is_held))

pub slice_bounds-text_ends-end : goal.slice_bounds-text_ends-end
slice_bounds-text_ends-end c = ends-within (steps-left _ _ _ _ _ _ _ _ _ _ c.take_steps.ensures c.in-Some.is).is_held

pub slice_bounds-tell-end-3 : goal.slice_bounds-tell-end-3
slice_bounds-tell-end-3 c =
    sym (length-take-le _ _ (ends-within (steps-left _ _ _ _ _ _ _ _ _ _ c.take_steps.ensures c.in-Some.is).is_held))

pub slice_bounds-counts-end : goal.slice_bounds-counts-end
slice_bounds-counts-end c = counts-within (steps-left _ _ _ _ _ _ _ _ _ _ c.take_steps.ensures c.in-Some.is)

pub slice_bounds-tell-end-4 : goal.slice_bounds-tell-end-4
slice_bounds-tell-end-4 c =
    sym (length-take-le _ _ (counts-within (steps-left _ _ _ _ _ _ _ _ _ _ c.take_steps.ensures c.in-Some.is)))

pub tell-requires : goal.tell-requires
tell-requires c =
    all-tellable _ _ _ _ c.check_inputs.ensures c.in_ok-check_inputs.was
    (steps-left _ _ _ _ _ _ _ _ _ _ c.take_steps.ensures c.in-Some.is)
    (omega (arith, c.if-least_room-size.false, c.least_room.ensures)) (omega (arith, c.if-least_room-pairs.false, c.least_room-2.ensures))
    (inputs-checked _ _ _ c.check_inputs.ensures c.in_ok-check_inputs.was)

pub returns : goal.returns
returns c =
    all-published _ _ _ _ c.check_inputs.ensures c.in_ok-check_inputs.was
    (steps-left _ _ _ _ _ _ _ _ _ _ c.take_steps.ensures c.in-Some.is)
    (omega (arith, c.if-least_room-size.false, c.least_room.ensures)) (omega (arith, c.if-least_room-pairs.false, c.least_room-2.ensures))
    c.tell.ensures
