use Rattle.std.proofs.Common.{arith}
use Rattle.buffers.proofs.Columns.{filled-up}
use Rattle.char_counts.proofs.Lows.{four-flags}
use Rattle.char_counts.proofs.low_bytes.write_fours.Goals as goal

pub loop-j-preserved : goal.loop-j-preserved
loop-j-preserved c =
    filled-up _ _ _ _ _ _ c.loop-j.invariant (omega arith)
    (four-flags c.args.text.now c.args.from c.loop-j.j (omega arith)
    c.continues.ensures c.continues-in-loop-j.ensures c.continues-in-loop-j-2.ensures c.continues-in-loop-j-3.ensures)
