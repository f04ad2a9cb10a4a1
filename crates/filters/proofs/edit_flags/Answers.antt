-- The range first, then whether there are characters enough, then the room; past these the result is laid down.
use mathlib.Core.Path.{ap}
use mathlib.Core.Bool.{not}
use native.Mathlib.Omega.{arith}
use Rattle.note.specs.Notes.{limit}
use Rattle.transform.proofs.Verdicts.{not-placed, from-standing, range_inside, starved-refused, refused-kept, refused-size, edit-room, edit-made}
use Rattle.filters.specs.Flags.{skips, flag_commands}
use Rattle.filters.proofs.Counted.{begun-skipped}
use Rattle.filters.proofs.edit_flags.Goals as goal

pub returns-then-not-is_char_range : goal.returns-then-not-is_char_range
returns-then-not-is_char_range c =
    not-placed limit c.requires.0 c.args.from.0 c.args.to.0 (skips c.args.flags.now)
    (flag_commands c.args.text.now c.args.flags.now) c.args.out.now c.args.out_starts.now
    c.args.out_ends.now c.is_char_range.ensures (ap not c.if-not-is_char_range.true)

pub measure_flags-requires : goal.measure_flags-requires
measure_flags-requires c =
    record {
      standing =
          from-standing limit c.requires.0 c.args.from.0 c.args.to.0 (skips c.args.flags.now)
          (flag_commands c.args.text.now c.args.flags.now) c.args.out.now c.args.out_starts.now
          c.args.out_ends.now c.is_char_range.ensures (ap not c.if-not-is_char_range.false);
      counted = c.requires.1;
    }

pub overflow_sub-kept : goal.overflow_sub-kept
overflow_sub-kept c =
    (range_inside limit c.requires.0 c.args.from.0 c.args.to.0 (skips c.args.flags.now)
    (flag_commands c.args.text.now c.args.flags.now) c.args.out.now c.args.out_starts.now
    c.args.out_ends.now c.is_char_range.ensures (ap not c.if-not-is_char_range.false)).1

pub overflow_add-kept : goal.overflow_add-kept
overflow_add-kept c =
    let range =
    range_inside limit c.requires.0 c.args.from.0 c.args.to.0 (skips c.args.flags.now)
    (flag_commands c.args.text.now c.args.flags.now) c.args.out.now c.args.out_starts.now
    c.args.out_ends.now c.is_char_range.ensures (ap not c.if-not-is_char_range.false) in
    omega (arith, range.0, range.1)

pub returns-then-room-kept : goal.returns-then-room-kept
returns-then-room-kept c =
    refused-kept limit c.requires.0 c.args.from.0 c.args.to.0 (skips c.args.flags.now)
    (flag_commands c.args.text.now c.args.flags.now) c.args.out.now c.args.out_starts.now
    c.args.out_ends.now c.is_char_range.ensures (ap not c.if-not-is_char_range.false)
    (begun-skipped c.args.text.now c.args.to.0 c.args.from.0 c.args.flags.now)
    c.measure_flags.ensures c.in-Some.is c.least_room.ensures
    c.least_of_two-room.ensures c.if-room-kept.true

pub returns-then-room-kept-2 : goal.returns-then-room-kept-2
returns-then-room-kept-2 c =
    refused-size limit c.requires.0 c.args.from.0 c.args.to.0 (skips c.args.flags.now)
    (flag_commands c.args.text.now c.args.flags.now) c.args.out.now c.args.out_starts.now
    c.args.out_ends.now c.is_char_range.ensures (ap not c.if-not-is_char_range.false)
    (begun-skipped c.args.text.now c.args.to.0 c.args.from.0 c.args.flags.now)
    c.measure_flags.ensures c.in-Some.is c.least_room.ensures
    c.least_of_two-room.ensures c.if-room-kept.false c.if-room-kept-2.true

pub lay_filtered-requires : goal.lay_filtered-requires
lay_filtered-requires c =
    record {
      ready =
          record {
            standing =
                from-standing limit c.requires.0 c.args.from.0 c.args.to.0 (skips c.args.flags.now)
                (flag_commands c.args.text.now c.args.flags.now) c.args.out.now c.args.out_starts.now
                c.args.out_ends.now c.is_char_range.ensures (ap not c.if-not-is_char_range.false);
            counted = c.requires.1;
          };
      rooms =
          edit-room limit c.requires.0 c.args.from.0 c.args.to.0 (skips c.args.flags.now)
          (flag_commands c.args.text.now c.args.flags.now) c.args.out.now c.args.out_starts.now
          c.args.out_ends.now c.is_char_range.ensures (ap not c.if-not-is_char_range.false)
          (begun-skipped c.args.text.now c.args.to.0 c.args.from.0 c.args.flags.now)
          c.measure_flags.ensures c.in-Some.is c.least_room.ensures
          c.least_of_two-room.ensures c.if-room-kept.false c.if-room-kept-2.false;
    }

pub returns-in_default : goal.returns-in_default
returns-in_default c =
    starved-refused limit c.requires.0 c.args.from.0 c.args.to.0 (skips c.args.flags.now)
    (flag_commands c.args.text.now c.args.flags.now) c.args.out.now c.args.out_starts.now
    c.args.out_ends.now c.is_char_range.ensures (ap not c.if-not-is_char_range.false)
    (begun-skipped c.args.text.now c.args.to.0 c.args.from.0 c.args.flags.now)
    c.measure_flags.ensures c.in_default.is

pub returns : goal.returns
returns c =
    edit-made limit c.requires.0 c.args.from.0 c.args.to.0 (skips c.args.flags.now)
    (flag_commands c.args.text.now c.args.flags.now) c.args.out.now c.args.out_starts.now
    c.args.out_ends.now c.is_char_range.ensures (ap not c.if-not-is_char_range.false)
    (begun-skipped c.args.text.now c.args.to.0 c.args.from.0 c.args.flags.now)
    c.measure_flags.ensures c.in-Some.is c.least_room.ensures
    c.least_of_two-room.ensures c.if-room-kept.false
    c.if-room-kept-2.false c.lay_filtered.ensures
