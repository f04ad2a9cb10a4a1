use Rattle.std.proofs.Common.{refl, arith}
use Rattle.char_counts.proofs.Lows.{fours-small, one-low, far-low, lows-less}
use Rattle.char_counts.proofs.low_bytes.low_block.Goals as goal

pub write_sixteens-requires : goal.write_sixteens-requires
write_sixteens-requires c = (omega (arith, c.write_fours.ensures.same), fours-small _ _ c.write_fours.ensures refl)

pub loop-j-preserved : goal.loop-j-preserved
loop-j-preserved c =
    let pre = c.requires in
    let j = c.loop-j.j in
    let fours = c.write_fours.ensures in
    let low = far-low _ j c.loop-j.invariant fours c.write_sixteens.ensures (omega arith) refl in
    lows-less (one-low c.loop-j.invariant (omega (arith, pre.inside, pre.room)) low) _ (omega arith)
