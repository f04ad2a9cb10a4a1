-- The earlier refusal of the note and the list, then the room; past these the answers are written.
use native.Mathlib.Omega.{arith}
use Rattle.buffers.proofs.Cases.{passed-on}
use Rattle.note.proofs.LengthFaults.{input-accepted, list-even}
use Rattle.convert.proofs.Answered.{accepted-columns}
use Rattle.convert_list.proofs.ConvertedList.{list-refused, too-little-room, all-converted}
use Rattle.convert_list.proofs.convert_list.Goals as goal

pub returns-in_err-earlier : goal.returns-in_err-earlier
returns-in_err-earlier c = rw (passed-on _ c.from_residual.ensures.1) (list-refused _ _ _ _ _ _ _ _ c.check_note-checked.ensures c.refused_if-unpaired.ensures c.earlier.ensures c.in_err-earlier.was)

pub returns-then-least_room-from : goal.returns-then-least_room-from
returns-then-least_room-from c =
    too-little-room _ _ _ _ _ _ _ _ c.check_note-checked.ensures c.refused_if-unpaired.ensures c.earlier.ensures c.in_ok-earlier.was (omega arith)

pub convert_each-requires : goal.convert_each-requires
convert_each-requires c =
    record {
      ordered_columns = accepted-columns _ _ (input-accepted _ c.args.from.now c.args.to.now c.check_note-checked.ensures c.refused_if-unpaired.ensures c.earlier.ensures c.in_ok-earlier.was);
      answer_room = record {
        same = list-even _ c.args.from.now c.args.to.now c.check_note-checked.ensures c.refused_if-unpaired.ensures c.earlier.ensures c.in_ok-earlier.was;
        of_numbers = omega arith;
        of_starts = omega arith;
        of_ends = omega arith;
      };
    }

pub returns : goal.returns
returns c =
    all-converted _ _ _ _ _ _ _ _ c.check_note-checked.ensures c.refused_if-unpaired.ensures c.earlier.ensures c.in_ok-earlier.was (omega arith) c.convert_each.ensures
