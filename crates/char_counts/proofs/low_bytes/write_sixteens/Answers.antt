use Rattle.std.proofs.Common.{refl, arith}
use Rattle.buffers.proofs.Columns.{filled-up}
use Rattle.char_counts.specs.Lows.{sixteen_at}
use Rattle.char_counts.proofs.low_bytes.write_sixteens.Goals as goal

pub loop-j-preserved : goal.loop-j-preserved
unfolding sixteen_at
loop-j-preserved c = filled-up _ _ _ _ _ _ c.loop-j.invariant (omega arith) refl
