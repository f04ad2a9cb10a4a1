-- Each turn judges 16 places more, up to a block that does not fit or is not there.
use Rattle.std.proofs.Common.{◌+◌, ◌*◌}
use Rattle.pattern.proofs.Placed.{Going}
use Rattle.pattern.proofs.blocks.judge_blocks.Given as goal

abbrev pub invariant-loop-k : goal.invariant-loop-k
invariant-loop-k l = Going l.text l.list l.second (l.second + 80 * l.k)
