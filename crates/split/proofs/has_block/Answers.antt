-- By its tests.
use mathlib.Core.Path.{refl}
use mathlib.Core.Bool.{false}
use native.Mathlib.Omega.{arith}
use borrow.Author.Tests.{leb-true}
use Rattle.buffers.proofs.Cases.{clash}
use Rattle.split.proofs.has_block.Goals as goal

pub returns-then-to-from : goal.returns-then-to-from
returns-then-to-from c t = clash false t refl

pub returns-then-to-from-gt16 : goal.returns-then-to-from-gt16
returns-then-to-from-gt16 c t = clash false t refl

pub returns-then-size-from-lt16 : goal.returns-then-size-from-lt16
returns-then-size-from-lt16 c t = clash false t refl

pub returns : goal.returns
returns c t = record { some = omega arith; few = omega arith; inside = omega arith; below = leb-true _ _ t }
