-- The list, and by it the result.
use mathlib.Core.Path.{sym}
use native.Mathlib.Omega.{arith}
use lib.Seq.{length-take-le}
use Rattle.redact_note.proofs.Redacting.{list-long, list-ready, list-blanked}
use Rattle.redact_note.proofs.blank.Goals as goal

pub slice_bounds-result_len-end-2 : goal.slice_bounds-result_len-end-2
slice_bounds-result_len-end-2 c = sym (length-take-le _ _ (list-long _ _ _ c.write_list-n.ensures))

pub slice_bounds-lay_out-end-2 : goal.slice_bounds-lay_out-end-2
slice_bounds-lay_out-end-2 c = sym (length-take-le _ _ (list-long _ _ _ c.write_list-n.ensures))

pub lay_out-requires : goal.lay_out-requires
lay_out-requires c =
    record { ready = list-ready _ _ _ c.write_list-n.ensures c.requires.ready; until_bound = omega (arith, c.result_len-until.ensures) }

pub returns : goal.returns
returns c = list-blanked _ _ _ c.write_list-n.ensures c.lay_out.ensures
