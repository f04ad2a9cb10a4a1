-- Two reads, or the sum.
use native.Mathlib.Omega.{arith}
use Prim.Native.Nat.{◌-◌}
use Rattle.split_offsets.proofs.Converting.{bytes-original, bytes-normalized}
use Rattle.split_offsets.proofs.piece_bytes.Goals as goal

pub overflow_cast-start : goal.overflow_cast-start
overflow_cast-start c = omega (arith, c.type_inv.starts c.args.from.0)

pub overflow_add-start : goal.overflow_add-start
overflow_add-start c = omega (arith, c.type_inv.starts c.args.from.0, c.requires.low)

pub overflow_cast-end : goal.overflow_cast-end
overflow_cast-end c = omega (arith, c.type_inv.ends (c.args.to.0 - 1))

pub overflow_add-end : goal.overflow_add-end
overflow_add-end c = omega (arith, c.type_inv.ends (c.args.to.0 - 1), c.requires.low)

pub returns-in-Original : goal.returns-in-Original
returns-in-Original c = bytes-original _ _ _ _ _ _ c.in-Original.is

pub returns-in-Normalized : goal.returns-in-Normalized
returns-in-Normalized c = bytes-normalized _ _ _ _ _ _ c.in-Normalized.is
