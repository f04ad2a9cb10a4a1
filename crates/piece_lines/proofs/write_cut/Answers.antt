-- The pieces' ends in two columns, and by them the lines.
use mathlib.Core.Path.{sym}
use lib.Seq.{length-take-le}
use Rattle.piece_lines.proofs.Cuts.{spans-room, starts_long, ends_long, pieces-spanned, pieces_room, pieces-laid}
use Rattle.piece_lines.proofs.write_cut.Goals as goal

pub write_spans-count-requires : goal.write_spans-count-requires
write_spans-count-requires c =
    spans-room c.requires.0 _ _ c.span_buffer-spans.ensures c.column_buffer-starts.ensures c.column_buffer-ends.ensures

pub slice_bounds-starts-end : goal.slice_bounds-starts-end
slice_bounds-starts-end c = starts_long c.requires.0 _ _ c.write_spans-count.ensures

pub slice_bounds-write_pieces-end : goal.slice_bounds-write_pieces-end
slice_bounds-write_pieces-end c = sym (length-take-le _ _ (starts_long c.requires.0 _ _ c.write_spans-count.ensures))

pub slice_bounds-ends-end : goal.slice_bounds-ends-end
slice_bounds-ends-end c = ends_long c.requires.0 _ _ c.write_spans-count.ensures

pub slice_bounds-write_pieces-end-2 : goal.slice_bounds-write_pieces-end-2
slice_bounds-write_pieces-end-2 c = sym (length-take-le _ _ (ends_long c.requires.0 _ _ c.write_spans-count.ensures))

pub write_pieces-requires : goal.write_pieces-requires
write_pieces-requires c =
    let spans = c.write_spans-count.ensures in
    (pieces-spanned c.requires.0 _ _ spans, pieces_room c.requires.0 _ _ spans c.requires.1)

pub returns : goal.returns
returns c = pieces-laid c.requires.0 _ _ c.write_spans-count.ensures c.write_pieces.ensures
