use Rattle.std.proofs.Common.{arith}
use Rattle.convert_list.proofs.TwoReads.{none-expand, one-expands, all-expanding}
use Rattle.convert_list.proofs.all_expand.Goals as goal

pub loop-i-init : goal.loop-i-init
loop-i-init c t = none-expand

pub loop-i-preserved : goal.loop-i-preserved
loop-i-preserved c = one-expands c.loop-i.invariant c.expands-ok.ensures

pub returns : goal.returns
returns c t = all-expanding (c.loop-i.invariant t) (omega arith)
