use native.Mathlib.Omega.{arith}
use Rattle.buffers.proofs.Columns.{none_filled, filled-up, filled_at}
use Rattle.boundaries.proofs.write_widths.Goals as goal

pub loop-j-init : goal.loop-j-init
loop-j-init c = none_filled _ _ _

pub loop-j-preserved : goal.loop-j-preserved
loop-j-preserved c = filled-up _ _ _ _ _ _ c.loop-j.invariant (omega arith) c.lead_len_lane.ensures

pub shape_of-widths : goal.shape_of-widths
shape_of-widths c = c.loop-j.invariant.same

pub returns : goal.returns
returns c = filled_at _ _ _ _ _ _ _ c.loop-j.invariant (omega arith) (omega arith)
