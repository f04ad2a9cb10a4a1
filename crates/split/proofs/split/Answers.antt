-- A refusal comes before the first store; past it there is room for every piece and every alignment.
use Rattle.buffers.proofs.Cases.{passed-on}
use Rattle.note.specs.Notes.{limit}
use Rattle.split.specs.Splitting.{columns}
use Rattle.split.proofs.Judged.{split-refused, split-accepted, split-cut}
use Rattle.split.proofs.split.Goals as goal

pub write_pieces-requires : goal.write_pieces-requires
write_pieces-requires c =
    split-accepted limit _ _ _ _ (columns c.args.piece_starts.now c.args.piece_ends.now c.args.piece_shifts.now c.args.piece_lengths.now c.args.out_starts.now c.args.out_ends.now)
    c.least_of_two-spans.ensures c.least_of_two-numbers.ensures c.least_of_two-for_pieces.ensures c.least_of_two-for_alignments.ensures
    c.check_split.ensures c.in_ok-check_split.was

pub returns-in_err-check_split : goal.returns-in_err-check_split
returns-in_err-check_split c = rw (passed-on _ c.from_residual.ensures.1) (split-refused limit _ _ _ _ (columns c.args.piece_starts.now c.args.piece_ends.now c.args.piece_shifts.now c.args.piece_lengths.now c.args.out_starts.now c.args.out_ends.now)
    c.least_of_two-spans.ensures c.least_of_two-numbers.ensures c.least_of_two-for_pieces.ensures c.least_of_two-for_alignments.ensures
    c.check_split.ensures c.in_err-check_split.was)

pub returns : goal.returns
returns c =
    split-cut limit _ _ _ _ (columns c.args.piece_starts.now c.args.piece_ends.now c.args.piece_shifts.now c.args.piece_lengths.now c.args.out_starts.now c.args.out_ends.now)
    c.least_of_two-spans.ensures c.least_of_two-numbers.ensures c.least_of_two-for_pieces.ensures c.least_of_two-for_alignments.ensures
    c.check_split.ensures c.in_ok-check_split.was c.write_pieces.ensures
