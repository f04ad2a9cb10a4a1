-- Each turn looks at one more flag.
use Rattle.filter_blocks.proofs.Whole.{Keeping}
use Rattle.filter_blocks.proofs.all_kept.Given as goal

abbrev pub invariant-loop-flag : goal.invariant-loop-flag
invariant-loop-flag l = Keeping l.flags l.ok l.flag-index
