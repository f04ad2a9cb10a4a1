-- The range first, then the script's commands, then the room; past these the result is laid down.
use mathlib.Core.Path.{ap}
use mathlib.Core.Bool.{not}
use mathlib.Core.Path.{◌∙◌, sym}
use native.Mathlib.Omega.{arith}
use Rattle.note.specs.Notes.{limit}
use Rattle.script.specs.Scripts.{commands_of}
use Rattle.edit_steps.proofs.Measured.{measured-size}
use Rattle.transform.proofs.Verdicts.{not-placed, from-standing, range_inside, begun-standing, starved-refused, refused-kept, refused-size, edit-room, edit-made}
use Rattle.transform.proofs.edit.Goals as goal

pub returns-then-not-is_char_range : goal.returns-then-not-is_char_range
returns-then-not-is_char_range c =
    not-placed limit c.requires c.args.from.0 c.args.to.0 c.args.initial_offset
    (commands_of c.args.script.now) c.args.out.now c.args.out_starts.now c.args.out_ends.now
    c.is_char_range.ensures (ap not c.if-not-is_char_range.true)

pub skip-position-requires : goal.skip-position-requires
skip-position-requires c =
    from-standing limit c.requires c.args.from.0 c.args.to.0 c.args.initial_offset
    (commands_of c.args.script.now) c.args.out.now c.args.out_starts.now c.args.out_ends.now
    c.is_char_range.ensures (ap not c.if-not-is_char_range.false)

pub measure-requires : goal.measure-requires
measure-requires c =
    begun-standing limit c.requires c.args.from.0 c.args.to.0 c.args.initial_offset
    (commands_of c.args.script.now) c.args.out.now c.args.out_starts.now c.args.out_ends.now
    c.is_char_range.ensures (ap not c.if-not-is_char_range.false) c.skip-position.ensures

pub overflow_sub-kept : goal.overflow_sub-kept
overflow_sub-kept c =
    (range_inside limit c.requires c.args.from.0 c.args.to.0 c.args.initial_offset
    (commands_of c.args.script.now) c.args.out.now c.args.out_starts.now c.args.out_ends.now
    c.is_char_range.ensures (ap not c.if-not-is_char_range.false)).1

pub overflow_add-kept : goal.overflow_add-kept
overflow_add-kept c =
    let range =
    range_inside limit c.requires c.args.from.0 c.args.to.0 c.args.initial_offset
    (commands_of c.args.script.now) c.args.out.now c.args.out_starts.now c.args.out_ends.now
    c.is_char_range.ensures (ap not c.if-not-is_char_range.false) in
    omega (arith, range.0, range.1)

pub returns-then-room-kept : goal.returns-then-room-kept
returns-then-room-kept c =
    refused-kept limit c.requires c.args.from.0 c.args.to.0 c.args.initial_offset
    (commands_of c.args.script.now) c.args.out.now c.args.out_starts.now c.args.out_ends.now
    c.is_char_range.ensures (ap not c.if-not-is_char_range.false)
    c.skip-position.ensures c.measure.ensures
    c.in-Some.is c.least_room.ensures c.least_of_two-room.ensures c.if-room-kept.true

pub returns-then-room-kept-2 : goal.returns-then-room-kept-2
returns-then-room-kept-2 c =
    refused-size limit c.requires c.args.from.0 c.args.to.0 c.args.initial_offset
    (commands_of c.args.script.now) c.args.out.now c.args.out_starts.now c.args.out_ends.now
    c.is_char_range.ensures (ap not c.if-not-is_char_range.false)
    c.skip-position.ensures c.measure.ensures
    c.in-Some.is c.least_room.ensures c.least_of_two-room.ensures c.if-room-kept.false
    c.if-room-kept-2.true

pub lay_edit-requires : goal.lay_edit-requires
lay_edit-requires c = (
  edit-room limit c.requires c.args.from.0 c.args.to.0 c.args.initial_offset
      (commands_of c.args.script.now) c.args.out.now c.args.out_starts.now c.args.out_ends.now
      c.is_char_range.ensures (ap not c.if-not-is_char_range.false)
      c.skip-position.ensures c.measure.ensures
      c.in-Some.is c.least_room.ensures c.least_of_two-room.ensures
      c.if-room-kept.false c.if-room-kept-2.false,
  (measured-size _ _ _ _ (sym c.measure.ensures ∙ c.in-Some.is)).1,
)

pub returns-in_default : goal.returns-in_default
returns-in_default c =
    starved-refused limit c.requires c.args.from.0 c.args.to.0 c.args.initial_offset
    (commands_of c.args.script.now) c.args.out.now c.args.out_starts.now c.args.out_ends.now
    c.is_char_range.ensures (ap not c.if-not-is_char_range.false)
    c.skip-position.ensures c.measure.ensures
    c.in_default.is

pub returns : goal.returns
returns c =
    edit-made limit c.requires c.args.from.0 c.args.to.0 c.args.initial_offset
    (commands_of c.args.script.now) c.args.out.now c.args.out_starts.now c.args.out_ends.now
    c.is_char_range.ensures (ap not c.if-not-is_char_range.false)
    c.skip-position.ensures c.measure.ensures
    c.in-Some.is c.least_room.ensures c.least_of_two-room.ensures
    c.if-room-kept.false c.if-room-kept-2.false
    c.lay_edit.ensures
