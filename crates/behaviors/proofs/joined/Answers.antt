-- Two flags are an index below 4.
use native.Mathlib.Omega.{arith}
use Rattle.behaviors.proofs.Tests.{flags-small, flags-read}
use Rattle.behaviors.proofs.joined.Goals as goal

pub overflow_mul-result : goal.overflow_mul-result
overflow_mul-result c = omega (arith, flags-small c.args.before c.args.matched)

pub overflow_add-result : goal.overflow_add-result
overflow_add-result c = omega (arith, flags-small c.args.before c.args.matched)

pub bounds-table-before : goal.bounds-table-before
bounds-table-before c = flags-small c.args.before c.args.matched

pub returns : goal.returns
returns c = flags-read _ _ _
