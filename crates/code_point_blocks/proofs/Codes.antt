-- Laws of `text_of` and `allScalar`: code points one by one, and in parts.
use Prim.Native.Nat.{ℕ, zero, suc, ◌+◌, ◌-◌, ◌*◌, ◌≤◌, ◌<◌}
use mathlib.Core.Path.{◌≡◌, ◌∙◌, ap, refl, sym}
use mathlib.Core.Bool.{true, ◌&&◌}
use mathlib.Core.List.{List, [], ◌∷◌, ◌++◌, append_assoc}
use mathlib.Mathlib.Data.Bool.Basic.{and_elim_left, and_elim_right}
use native.Mathlib.Numerals.{add-one}
use native.Mathlib.Omega.{arith}
use lib.ListN.{length, get_or, drop, length-append, drop_of_length-le, take-append-drop}
use lib.Seq.{drop-cons, drop-drop}
use Rattle.buffers.specs.Splice.{part}
use Rattle.buffers.proofs.Cases.{true-or-false}
use Rattle.utf8.specs.Scalar.{scalar, bytes_of}
use Rattle.utf8.proofs.Scalar.{bytes_of-scalar, encoded-one}
use Rattle.utf8.specs.Scalar.{len_utf8}
use Rattle.utf8.proofs.LenUtf8.{size_most}
use Rattle.code_point_blocks.specs.Codes.{text_of, all_scalar}

pub text-append : (a b : List ℕ) → text_of (a ++ b) ≡ text_of a ++ text_of b
unfolding text_of
text-append [] b = refl
text-append (c ∷ cs) b = ap (◌++◌ (bytes_of c)) (text-append cs b) ∙ sym (append_assoc (bytes_of c) (text_of cs) (text_of b))

pub scalar-append : (a b : List ℕ) → all_scalar (a ++ b) ≡ (all_scalar a && all_scalar b)
unfolding all_scalar
scalar-append [] b = refl
scalar-append (c ∷ cs) b = true-or-false (scalar c) (λ t. rw t (scalar-append cs b)) (λ u. rw u)

pub length-text : (cs : List ℕ) → length (text_of cs) ≤ length cs * 4
unfolding text_of len_utf8
length-text [] = omega arith
length-text (c ∷ cs) = omega (arith, length-append (bytes_of c) (text_of cs), size_most c, length-text cs)

-- the code point at i, and those after it
module _ (cs : List ℕ) (i : ℕ) (h : i < length cs) where
  pub text-cons : text_of (drop i cs) ≡ bytes_of (get_or cs i 0) ++ text_of (drop (i + 1) cs)
  unfolding text_of
  text-cons = rw (drop-cons cs i 0 h, add-one i)

  pub scalar-cons : all_scalar (drop i cs) ≡ (scalar (get_or cs i 0) && all_scalar (drop (i + 1) cs))
  unfolding all_scalar
  scalar-cons = rw (drop-cons cs i 0 h, add-one i)

pub text-end : (cs : List ℕ) {i : ℕ} → length cs ≤ i → text_of (drop i cs) ≡ []
unfolding text_of
text-end cs h = rw (drop_of_length-le cs h)

pub scalar-end : (cs : List ℕ) {i : ℕ} → length cs ≤ i → all_scalar (drop i cs) ≡ true
unfolding all_scalar
scalar-end cs h = rw (drop_of_length-le cs h)

-- those from i on: n of them, and the rest
module _ (cs : List ℕ) (i n : ℕ) where
  block-cut : part cs i (i + n) ++ drop (i + n) cs ≡ drop i cs
  block-cut =
      let m : i + n - i ≡ n = omega arith in
      rw (m, ← drop-drop n i cs) (take-append-drop n (drop i cs))

  pub text-block : text_of (drop i cs) ≡ text_of (part cs i (i + n)) ++ text_of (drop (i + n) cs)
  text-block = ap text_of (sym block-cut) ∙ text-append (part cs i (i + n)) (drop (i + n) cs)

  pub scalar-block : all_scalar (drop i cs) ≡ (all_scalar (part cs i (i + n)) && all_scalar (drop (i + n) cs))
  scalar-block = ap all_scalar (sym block-cut) ∙ scalar-append (part cs i (i + n)) (drop (i + n) cs)

-- a scalar value among others
pub scalar-at : (cs : List ℕ) (i : ℕ) → all_scalar cs ≡ true → i < length cs → scalar (get_or cs i 0) ≡ true
unfolding all_scalar
scalar-at [] i ok h = absurd (omega arith)
scalar-at (c ∷ cs) zero ok h = and_elim_left (scalar c) (all_scalar cs) ok
scalar-at (c ∷ cs) (suc i) ok h = scalar-at cs i (and_elim_right (scalar c) (all_scalar cs) ok) (omega arith)

-- ASCII is its own text
pub text-ascii : (cs : List ℕ) → all_scalar cs ≡ true → ((i : ℕ) → i < length cs → get_or cs i 0 < 0x80) → text_of cs ≡ cs
unfolding text_of all_scalar
text-ascii [] ok below = refl
text-ascii (c ∷ cs) ok below =
    let rest = text-ascii cs (and_elim_right (scalar c) (all_scalar cs) ok) (λ i h. below (suc i) (omega arith)) in
    rw (bytes_of-scalar c (and_elim_left (scalar c) (all_scalar cs) ok), encoded-one c (below 0 (omega arith)), rest)
