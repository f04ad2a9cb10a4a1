-- A refusal comes before the first store; past it there is room for the pieces, whose spans become their offsets.
use Rattle.buffers.proofs.Cases.{passed-on}
use Rattle.note.specs.Notes.{limit}
use Rattle.split_offsets.proofs.PieceOffsets.{refused, spans-room, original_short, spans-ready, listed}
use Rattle.split_offsets.proofs.get_splits.Goals as goal

pub write_packed-count-requires : goal.write_packed-count-requires
write_packed-count-requires c =
    spans-room limit _ _ _ c.args.side c.args.unit c.args.out_starts.now c.args.out_ends.now c.least_of_two-room.ensures c.check_splits.ensures c.in_ok-check_splits.was

pub convert_spans-requires : goal.convert_spans-requires
convert_spans-requires c =
    let short = original_short limit _ _ _ c.args.side c.args.unit c.args.out_starts.now c.args.out_ends.now c.least_of_two-room.ensures c.check_splits.ensures c.in_ok-check_splits.was in
    let spans = spans-ready limit _ _ _ c.args.side c.args.unit c.args.out_starts.now c.args.out_ends.now c.least_of_two-room.ensures c.check_splits.ensures c.in_ok-check_splits.was c.write_packed-count.ensures in record { spans_ready = spans; original_len_bound = short }

pub returns-in_err-check_splits : goal.returns-in_err-check_splits
returns-in_err-check_splits c = rw (passed-on _ c.from_residual.ensures.1) (refused limit _ _ _ _ _ _ _ c.least_of_two-room.ensures c.check_splits.ensures c.in_err-check_splits.was)

pub returns : goal.returns
returns c =
    listed limit _ _ _ c.args.side c.args.unit c.args.out_starts.now c.args.out_ends.now c.least_of_two-room.ensures c.check_splits.ensures c.in_ok-check_splits.was c.write_packed-count.ensures c.convert_spans.ensures
