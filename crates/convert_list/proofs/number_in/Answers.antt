-- A refusal's number fits a byte.
use Rattle.note.proofs.Numbers.{number_of-small}
use native.Mathlib.Omega.{arith}
use Rattle.convert_list.proofs.number_in.Goals as goal

pub overflow_cast-result : goal.overflow_cast-result
overflow_cast-result c = omega (arith, c.from.ensures, number_of-small c.in-Err.k)
