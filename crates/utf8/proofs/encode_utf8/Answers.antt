-- Each return is one case of `bytes_of`: none of a number that is no scalar value, and so many bytes of one that is.
use mathlib.Core.Path.{◌≡◌, ◌∙◌, refl, sym}
use mathlib.Core.Bool.{true}
use mathlib.Core.List.{List}
use Prim.Native.Nat.{ℕ}
use native.Mathlib.Omega.{arith}
use lib.ListN.{length, replicate}
use Rattle.buffers.specs.Splice.{overlay}
use Rattle.utf8.specs.Scalar.{scalar, bytes_of}
use Rattle.utf8.specs.declared.Encoded.{Encoded}
use Rattle.utf8.specs.Encoding.{EncodedAs}
use Rattle.utf8.proofs.Scalar.{encoded-one, encoded-two, encoded-three, encoded-four, scalar-most, bytes_of-scalar, bytes_of-other}
use Rattle.utf8.proofs.encode_utf8.Goals as goal
use Rattle.utf8.proofs.encode_utf8.Goals.{Else-not-is_scalar}

-- the answer that holds the bytes u
holding : {c : ℕ} {r : Encoded} {u : List ℕ} → bytes_of c ≡ u → r.len ≡ length u → r.bytes ≡ overlay u (replicate 4 0) → EncodedAs c r
holding e l b = record { len_is = rw e l; bytes_are = rw e b }

-- past the first test the number is a scalar value
is_scalar : (c : Else-not-is_scalar) → scalar c.args.c ≡ true
is_scalar c = sym c.is_scalar.ensures ∙ c.if-not-is_scalar.false

pub returns-then-not-is_scalar : goal.returns-then-not-is_scalar
unfolding overlay
returns-then-not-is_scalar c = holding (bytes_of-other _ (sym c.is_scalar.ensures ∙ c.if-not-is_scalar.true)) refl refl

pub returns-then-c-lt128 : goal.returns-then-c-lt128
unfolding overlay
returns-then-c-lt128 c =
    holding (bytes_of-scalar _ (is_scalar (goal.at.returns-then-c-lt128 c).Else-not-is_scalar) ∙ encoded-one _ (omega arith)) refl refl

pub returns-then-c-lt2048 : goal.returns-then-c-lt2048
unfolding overlay
returns-then-c-lt2048 c =
    holding (bytes_of-scalar _ (is_scalar (goal.at.returns-then-c-lt2048 c).Else-not-is_scalar) ∙ encoded-two _ (omega arith) (omega arith)) refl refl

pub returns-then-c-lt65536 : goal.returns-then-c-lt65536
unfolding overlay
returns-then-c-lt65536 c =
    holding (bytes_of-scalar _ (is_scalar (goal.at.returns-then-c-lt65536 c).Else-not-is_scalar) ∙ encoded-three _ (omega arith) (omega arith)) refl refl

pub overflow_cast-result-2 : goal.overflow_cast-result-2
unfolding overlay
overflow_cast-result-2 c = omega (arith, scalar-most _ (is_scalar (goal.at.overflow_cast-result-2 c).Else-not-is_scalar))

pub returns : goal.returns
unfolding overlay
returns c =
    holding (bytes_of-scalar _ (is_scalar (goal.at.returns c).Else-not-is_scalar) ∙ encoded-four _ (omega arith)) refl refl
