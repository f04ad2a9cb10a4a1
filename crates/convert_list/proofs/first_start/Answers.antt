-- A start fits 32 bits.
use native.Mathlib.Omega.{arith}
use Rattle.convert_list.proofs.first_start.Goals as goal

pub overflow_cast-result-2 : goal.overflow_cast-result-2
overflow_cast-result-2 c = omega (arith, c.type_inv.starts c.args.from)
