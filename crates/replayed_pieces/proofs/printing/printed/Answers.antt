-- What is printed lies within the buffer.
use mathlib.Core.Path.{sym}
use lib.Seq.{length-take-le}
use Rattle.piece_lines.proofs.Answering.{printed-within}
use Rattle.replayed_pieces.proofs.Replaying.{is-printed}
use Rattle.replayed_pieces.proofs.printing.printed.Goals as goal

pub slice_bounds-out-end : goal.slice_bounds-out-end
slice_bounds-out-end c = printed-within c.pieces-size.ensures

pub slice_bounds-is_text-end : goal.slice_bounds-is_text-end
slice_bounds-is_text-end c = sym (length-take-le _ _ (printed-within c.pieces-size.ensures))

pub returns : goal.returns
returns c = is-printed _ c.field.ensures c.pieces-size.ensures c.is_text.ensures
