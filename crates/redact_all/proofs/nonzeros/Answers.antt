-- All of them without those that are 0.
use native.Mathlib.Omega.{arith}
use Rattle.word_pairs.proofs.Counts.{zeros-few}
use Rattle.redact_all.proofs.nonzeros.Goals as goal

pub overflow_sub-result : goal.overflow_sub-result
overflow_sub-result c = omega (arith, c.zeros.ensures, zeros-few c.args.column.now)
