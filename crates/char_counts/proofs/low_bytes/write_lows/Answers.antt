use Rattle.std.proofs.Common.{arith}
use Rattle.char_counts.proofs.Lows.{first-low, each-ready}
use Rattle.char_counts.proofs.low_bytes.write_lows.Goals as goal

pub low_each-requires : goal.low_each-requires
low_each-requires c =
    each-ready (first-low c.args.text.now c.args.lows.now c.requires.0) _ (omega arith) (omega arith) c.requires.1

pub low_each-requires-2 : goal.low_each-requires-2
low_each-requires-2 c =
    each-ready (first-low c.args.text.now c.args.lows.now c.requires.0) _ (omega arith) (omega arith) c.requires.1
