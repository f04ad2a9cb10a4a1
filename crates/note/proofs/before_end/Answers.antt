-- The first byte's place apart, it is the number of the byte before.
use mathlib.Core.Path.{sym}
use native.Mathlib.Omega.{arith}
use Rattle.note.proofs.BeforeEnd.{before-none, before-some}
use Rattle.note.proofs.before_end.Goals as goal

pub returns-then-end-eq0 : goal.returns-then-end-eq0
returns-then-end-eq0 c = sym (before-none _ _ c.if-end-eq0.true)

pub returns : goal.returns
returns c = sym (before-some _ _ (omega arith))
