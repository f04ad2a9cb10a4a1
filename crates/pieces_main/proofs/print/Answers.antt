-- What is printed lies within the buffer.
use mathlib.Core.Path.{sym}
use lib.Seq.{length-take-le}
use Rattle.piece_lines.proofs.Answering.{printed-within}
use Rattle.pieces_main.proofs.print.Goals as goal

pub slice_bounds-out-end : goal.slice_bounds-out-end
slice_bounds-out-end g c = printed-within (c.answer-size.ensures _ c.requires.is_kept)

pub slice_bounds-write_all-end : goal.slice_bounds-write_all-end
slice_bounds-write_all-end g c = sym (length-take-le _ _ (printed-within (c.answer-size.ensures _ c.requires.is_kept)))
