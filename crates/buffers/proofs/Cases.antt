-- One of two: a test by its answer, two numbers by their order; and what an answer with a pair tells of its parts.
use Prim.Native.Nat.{ℕ, ◌≤◌, ◌<◌}
use mathlib.Core.Path.{◌≡◌, ap, refl}
use mathlib.Core.Bool.{Bool, true, false}
use native.Mathlib.Decide.{dec_le}
use native.Mathlib.Nat.{lt_of_not-le}
use native.Mathlib.Omega.{arith}
use Rattle.std.specs.Prelude.{Option, Some, None, Result, Ok, Err}
use Rattle.std.specs.Result.{IsErrAnd}

pub true-or-false : (a : Bool) {P : Type 0} → (a ≡ true → P) → (a ≡ false → P) → P
true-or-false true f g = f refl
true-or-false false f g = g refl

pub le-or-lt : (a b : ℕ) {P : Type 0} → (a ≤ b → P) → (b < a → P) → P
le-or-lt a b f g = elim (dec_le a b) [ yes h ↦ f h | no h ↦ g (lt_of_not-le h) ]

-- not both
pub clash : (a : Bool) {P : Type 0} → a ≡ true → a ≡ false → P
clash a p q = let z : ◌≡◌ {A = ℕ} 0 1 = cc in absurd (omega arith)

-- something is not nothing
pub none-some : {A : Type 0} {x : A} {P : Type 0} → None ≡ Some x → P
none-some e = let z : ◌≡◌ {A = ℕ} 0 1 = cc in absurd (omega arith)

pair-parts : {A B : Type 0} {p q : A × B} → p ≡ q → (p.0 ≡ q.0) × (p.1 ≡ q.1)
pair-parts e = (ap (λ r. r.0) e, ap (λ r. r.1) e)

pub some-parts : {A B : Type 0} {p q : A × B} → Some p ≡ Some q → (p.0 ≡ q.0) × (p.1 ≡ q.1)
some-parts e = pair-parts cc

pub ok-parts : {A B E : Type 0} {p q : A × B} → ◌≡◌ {A = Result (A × B) E} (Ok p) (Ok q) → (p.0 ≡ q.0) × (p.1 ≡ q.1)
ok-parts e = pair-parts cc

-- what `?` passes on of an error is that error
pub passed-on : {A E : Type 0} (r : Result A E) {k : E} → IsErrAnd r (λ e. e ≡ k) → r ≡ Err k
passed-on (Ok x) h = absurd h
passed-on (Err e) h = ap Err h
