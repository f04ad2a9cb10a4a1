use Rattle.std.proofs.Common.{refl, arith}
use Rattle.char_counts.proofs.Lows.{one-low, next_low}
use Rattle.char_counts.proofs.low_bytes.low_each.Goals as goal

pub loop-i-preserved : goal.loop-i-preserved
loop-i-preserved c =
    let pre = c.requires in
    one-low c.loop-i.invariant (omega (arith, pre.room, pre.inside)) (next_low c.loop-i.invariant (omega (arith, pre.some)) (omega (arith, pre.inside)) c.continues.ensures refl)
