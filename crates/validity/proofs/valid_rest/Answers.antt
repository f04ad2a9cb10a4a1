-- The bytes that are left are one block; then comes the end.
use mathlib.Core.Path.{sym}
use native.Mathlib.Omega.{arith}
use Rattle.validity.proofs.ValidAt.{rest-not, rest_end}
use Rattle.validity.proofs.valid_rest.Goals as goal

pub returns-then-not-valid_four : goal.returns-then-not-valid_four
returns-then-not-valid_four c = sym (rest-not _ _ c.requires.0 (omega arith) c.valid_four.ensures c.if-not-valid_four.true)

pub returns : goal.returns
returns c =
    rest_end _ _ c.requires.0 (omega arith) c.valid_four.ensures c.if-not-valid_four.false _ c.valid_between-2.ensures (omega arith)
