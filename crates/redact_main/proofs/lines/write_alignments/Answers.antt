-- What is laid fits the array that was passed for it.
use mathlib.Core.Path.{sym}
use native.Mathlib.Omega.{arith}
use lib.Seq.{length-take-le}
use Rattle.alignment_lines.proofs.Lines.{lines_fit}
use Rattle.redact_main.proofs.lines.write_alignments.Goals as goal

pub write_lines-size-requires : goal.write_lines-size-requires
write_lines-size-requires g c = (omega arith, omega arith, omega arith)

pub slice_bounds-lines-end : goal.slice_bounds-lines-end
slice_bounds-lines-end g c = lines_fit _ _ _ c.write_lines-size.ensures

pub slice_bounds-write_all-end : goal.slice_bounds-write_all-end
slice_bounds-write_all-end g c = sym (length-take-le _ _ (lines_fit _ _ _ c.write_lines-size.ensures))
