-- The earlier refusal of the text and the list, then the room; past these the pairs are answered one after the other.
use native.Mathlib.Omega.{arith}
use Rattle.buffers.proofs.Cases.{passed-on}
use Rattle.note.proofs.Faults.{text_short}
use Rattle.note.proofs.LengthFaults.{input-accepted, list-even}
use Rattle.char_offsets.proofs.CharOffsetsList.{list-refused, too-little-room, list_written}
use Rattle.char_offsets.proofs.char_offsets_list.Goals as goal

pub returns-in_err-earlier : goal.returns-in_err-earlier
returns-in_err-earlier c = rw (passed-on _ c.from_residual.ensures.1) (list-refused _ _ _ _ _ _ _ c.check_text-checked.ensures c.refused_if-unpaired.ensures c.earlier.ensures c.in_err-earlier.was)

pub returns-then-least_room-starts : goal.returns-then-least_room-starts
returns-then-least_room-starts c =
    too-little-room _ _ _ _ _ _ _ c.check_text-checked.ensures c.refused_if-unpaired.ensures c.earlier.ensures c.in_ok-earlier.was (omega arith)

pub count_and_write-requires : goal.count_and_write-requires
count_and_write-requires c =
    record {
      text_len_bound = text_short _ _ (input-accepted _ c.args.starts.now c.args.ends.now c.check_text-checked.ensures c.refused_if-unpaired.ensures c.earlier.ensures c.in_ok-earlier.was);
      pair_room = record {
        paired = list-even _ c.args.starts.now c.args.ends.now c.check_text-checked.ensures c.refused_if-unpaired.ensures c.earlier.ensures c.in_ok-earlier.was;
        numbers_fit = omega arith;
        starts_fit = omega arith;
        ends_fit = omega arith;
      };
    }

pub returns : goal.returns
returns c =
    list_written _ _ _ _ _ _ _ c.check_text-checked.ensures c.refused_if-unpaired.ensures c.earlier.ensures c.in_ok-earlier.was (omega arith) c.count_and_write.ensures
