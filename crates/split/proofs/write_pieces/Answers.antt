-- The spans first; by them the other four columns.
use mathlib.Core.Path.{sym}
use lib.Seq.{length-take-le}
use Rattle.note.specs.Notes.{limit}
use Rattle.split.specs.Splitting.{columns}
use Rattle.split.proofs.Judged.{spans-room, from-long, to-long, countable, columns-room, all-cut}
use Rattle.split.proofs.write_pieces.Goals as goal

pub write_spans-count-requires : goal.write_spans-count-requires
write_spans-count-requires c =
    spans-room limit _ _ _ _ (columns c.args.piece_starts.now c.args.piece_ends.now c.args.piece_shifts.now c.args.piece_lengths.now c.args.out_starts.now c.args.out_ends.now) c.requires

pub slice_bounds-from-end : goal.slice_bounds-from-end
slice_bounds-from-end c =
    from-long limit _ _ _ _ (columns c.args.piece_starts.now c.args.piece_ends.now c.args.piece_shifts.now c.args.piece_lengths.now c.args.out_starts.now c.args.out_ends.now) c.requires c.write_spans-count.ensures

pub slice_bounds-from-end-2 : goal.slice_bounds-from-end-2
slice_bounds-from-end-2 c =
    sym (length-take-le _ _ (from-long limit _ _ _ _ (columns c.args.piece_starts.now c.args.piece_ends.now c.args.piece_shifts.now c.args.piece_lengths.now c.args.out_starts.now c.args.out_ends.now) c.requires c.write_spans-count.ensures))

pub slice_bounds-to-end : goal.slice_bounds-to-end
slice_bounds-to-end c =
    to-long limit _ _ _ _ (columns c.args.piece_starts.now c.args.piece_ends.now c.args.piece_shifts.now c.args.piece_lengths.now c.args.out_starts.now c.args.out_ends.now) c.requires c.write_spans-count.ensures

pub slice_bounds-to-end-2 : goal.slice_bounds-to-end-2
slice_bounds-to-end-2 c =
    sym (length-take-le _ _ (to-long limit _ _ _ _ (columns c.args.piece_starts.now c.args.piece_ends.now c.args.piece_shifts.now c.args.piece_lengths.now c.args.out_starts.now c.args.out_ends.now) c.requires c.write_spans-count.ensures))

pub byte_count-alignments-requires : goal.byte_count-alignments-requires
byte_count-alignments-requires c =
    countable limit _ _ _ _ (columns c.args.piece_starts.now c.args.piece_ends.now c.args.piece_shifts.now c.args.piece_lengths.now c.args.out_starts.now c.args.out_ends.now) c.requires c.write_spans-count.ensures

pub write_columns-requires : goal.write_columns-requires
write_columns-requires c =
    columns-room limit _ _ _ _ (columns c.args.piece_starts.now c.args.piece_ends.now c.args.piece_shifts.now c.args.piece_lengths.now c.args.out_starts.now c.args.out_ends.now) c.requires c.write_spans-count.ensures c.byte_count-alignments.ensures

pub returns : goal.returns
returns c =
    all-cut limit _ _ _ _ (columns c.args.piece_starts.now c.args.piece_ends.now c.args.piece_shifts.now c.args.piece_lengths.now c.args.out_starts.now c.args.out_ends.now) c.requires c.write_spans-count.ensures c.byte_count-alignments.ensures c.write_columns.ensures
