-- The search judges both lines, and its list cuts the note.
use mathlib.Core.Path.{sym}
use lib.Seq.{length-take-le}
use Rattle.piece_lines.proofs.Answering.{laid_as}
use Rattle.piece_lines.proofs.Judging.{refusal-told, list-long, cuttable, cut-told}
use Rattle.piece_lines.proofs.cut.Goals as goal

pub slice_bounds-list-end : goal.slice_bounds-list-end
slice_bounds-list-end c =
    list-long c.find_matches.ensures c.requires.0 c.requires.1 c.list_buffer-list.ensures c.in-Ok.is

pub slice_bounds-write_cut-end : goal.slice_bounds-write_cut-end
slice_bounds-write_cut-end c =
    sym (length-take-le _ _ (list-long c.find_matches.ensures c.requires.0 c.requires.1 c.list_buffer-list.ensures c.in-Ok.is))

pub write_cut-requires : goal.write_cut-requires
write_cut-requires c =
    (cuttable c.find_matches.ensures c.requires.0 c.requires.1 c.list_buffer-list.ensures c.in-Ok.is, c.requires.2)

pub returns-in-Err : goal.returns-in-Err
returns-in-Err c =
    laid_as (refusal-told c.find_matches.ensures c.requires.0 c.requires.1 c.list_buffer-list.ensures _ c.in-Err.is) c.write_refusal.ensures

pub returns-in-Ok : goal.returns-in-Ok
returns-in-Ok c =
    laid_as (cut-told c.find_matches.ensures c.requires.0 c.requires.1 c.list_buffer-list.ensures c.in-Ok.is _) c.write_cut.ensures
