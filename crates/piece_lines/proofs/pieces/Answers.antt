-- What is kept of an input is all of it, or its first bytes.
use mathlib.Core.Path.{sym}
use native.Mathlib.Omega.{arith}
use lib.Seq.{length-take-le}
use Rattle.piece_lines.specs.Scanning.{head_size}
use Rattle.piece_lines.proofs.Answering.{kept_whole, kept-front}
use Rattle.piece_lines.proofs.pieces.Goals as goal

pub answer-requires : goal.answer-requires
answer-requires c =
    (record { input = c.args.input.now; is_kept = kept_whole _ (omega arith) c.scan-seen.ensures }, c.requires)

pub returns-then-input-le-KEPT : goal.returns-then-input-le-KEPT
returns-then-input-le-KEPT c = c.answer.ensures _ (kept_whole _ (omega arith) c.scan-seen.ensures)

pub slice_bounds-answer-end : goal.slice_bounds-answer-end
slice_bounds-answer-end c = sym (length-take-le head_size c.args.input.now (omega arith))

pub answer-requires-2 : goal.answer-requires-2
answer-requires-2 c = (record { input = c.args.input.now; is_kept = kept-front _ c.scan-seen.ensures }, c.requires)

pub returns : goal.returns
returns c = c.answer-2.ensures _ (kept-front _ c.scan-seen.ensures)
