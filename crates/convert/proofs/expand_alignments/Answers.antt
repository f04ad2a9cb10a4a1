-- The part is read at its two ends.
use Prim.Native.Nat.{◌-◌}
use Rattle.convert.proofs.Conversions.{expanded-past, expanded-inside}
use native.Mathlib.Omega.{arith}
use Rattle.convert.proofs.expand_alignments.Goals as goal

pub returns-then-ends-past : goal.returns-then-ends-past
returns-then-ends-past c = expanded-past _ _ _ _ (omega arith)

pub overflow_cast-start : goal.overflow_cast-start
overflow_cast-start c = omega (arith, c.type_inv.starts c.args.from)

pub overflow_cast-end : goal.overflow_cast-end
overflow_cast-end c = omega (arith, c.type_inv.ends (c.args.to - 1))

pub returns : goal.returns
returns c = expanded-inside _ _ _ _ (omega arith)
