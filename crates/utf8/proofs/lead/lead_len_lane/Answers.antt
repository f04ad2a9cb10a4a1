-- The first four bits are the byte divided by 16.
use native.Mathlib.Omega.{arith}
use Rattle.utf8.proofs.LeadLen.{width-lead}
use Rattle.utf8.proofs.lead.lead_len_lane.Goals as goal

pub returns : goal.returns
returns c = width-lead _ (omega arith) c.saturating_sub-lead.ensures c.min.ensures c.max.ensures
