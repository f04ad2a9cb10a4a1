-- Laws of `beforeEnd`: what a new character carries of a column.
use Prim.Native.Nat.{ℕ, ◌-◌, ◌<◌}
use mathlib.Core.Path.{◌≡◌}
use mathlib.Core.List.{List}
use native.Mathlib.Omega.{arith}
use lib.ListN.{get_or}
use borrow.Author.Tests.{eq-eqb, ne_eqb}
use Rattle.note.specs.Notes.{before_end}

pub before-none : (xs : List ℕ) (e : ℕ) → e ≡ 0 → before_end xs e ≡ 0
unfolding before_end
before-none xs e z = rw (eq-eqb e 0 z)

pub before-some : (xs : List ℕ) (e : ℕ) → 0 < e → before_end xs e ≡ get_or xs (e - 1) 0
unfolding before_end
before-some xs e h = rw (ne_eqb e 0 (λ z. absurd (omega arith)))
