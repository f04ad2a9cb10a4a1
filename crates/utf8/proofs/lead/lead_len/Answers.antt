-- By ranges.
use native.Mathlib.Omega.{arith}
use Rattle.utf8.proofs.LeadLen.{lead-len-one, lead-len-two, lead-len-three, lead-len-four}
use Rattle.utf8.proofs.lead.lead_len.Goals as goal

pub returns-then-b-lt192 : goal.returns-then-b-lt192
returns-then-b-lt192 c = lead-len-one _ c.if-b-lt192.true

pub returns-then-b-lt224 : goal.returns-then-b-lt224
returns-then-b-lt224 c = lead-len-two _ (omega arith) c.if-b-lt224.true

pub returns-then-b-lt240 : goal.returns-then-b-lt240
returns-then-b-lt240 c = lead-len-three _ (omega arith) c.if-b-lt240.true

pub returns : goal.returns
returns c = lead-len-four _ c.if-b-lt240.false
