-- Laws of `JudgedAs`: code points judged one by one, and in parts.
use Prim.Native.Nat.{ℕ, ◌+◌, ◌*◌, ◌≤◌, ◌<◌}
use mathlib.Core.Path.{◌≡◌, ◌∙◌, ap, refl, sym}
use mathlib.Core.Bool.{Bool, true, false, ◌&&◌, not}
use mathlib.Core.List.{List, [], ◌∷◌, ◌++◌}
use native.Mathlib.Omega.{arith}
use lib.Dec.{eqb}
use lib.ListN.{length, get_or, drop, length-append}
use borrow.Author.Tests.{eq-eqb, ne_eqb}
use Rattle.buffers.proofs.Cases.{true-or-false}
use Rattle.utf8.specs.Scalar.{scalar, bytes_of}
use Rattle.utf8.specs.Scalar.{len_utf8}
use Rattle.utf8.proofs.LenUtf8.{size_most, size-scalar}
use Rattle.code_point_blocks.specs.Codes.{text_of, all_scalar}
use Rattle.code_points.specs.declared.Judged.{Judged}
use Rattle.code_points.specs.Laying.{JudgedAs}
use Rattle.code_point_blocks.proofs.Codes.{text-append, scalar-append, text-cons, text-end, scalar-cons, scalar-end}

-- some are judged
pub record Judging (cs : List ℕ) (scalars : Bool) (size i : ℕ) : Type 0 where
  pub scalar_so_far : all_scalar cs ≡ (scalars && all_scalar (drop i cs))
  pub size_so_far : length (text_of cs) ≡ size + length (text_of (drop i cs))
  pub small : size ≤ i * 4
  pub most : i ≤ length cs

pub none-judged : {cs : List ℕ} → Judging cs true 0 0
none-judged = record { scalar_so_far = refl; size_so_far = omega arith; small = omega arith; most = omega arith }

both : (a b c : Bool) → (a && (b && c)) ≡ ((a && b) && c)
both true b c = refl
both false b c = refl

all_of : (a : Bool) → (a && true) ≡ a
all_of true = refl
all_of false = refl

module _ {cs : List ℕ} {scalars : Bool} {size i : ℕ} (k : Judging cs scalars size i) where
  pub one-judged : {more : ℕ} → i < length cs → more ≡ len_utf8 (get_or cs i 0) → Judging cs (scalars && not (eqb more 0)) (size + more) (i + 1)
  unfolding len_utf8 bytes_of
  one-judged {more} h wide =
      let is : not (eqb more 0) ≡ scalar (get_or cs i 0) =
      true-or-false (scalar (get_or cs i 0))
      (λ t. rw (ne_eqb more 0 (λ z. absurd (omega (arith, wide, (size-scalar (get_or cs i 0) t).0))), t))
      (λ u. rw (eq-eqb more 0 (wide ∙ rw u), u)) in
      record {
        scalar_so_far = k.scalar_so_far ∙ rw (scalar-cons cs i h, is) (both scalars (scalar (get_or cs i 0)) (all_scalar (drop (i + 1) cs)));
        size_so_far = let all : length (text_of (drop i cs)) ≡ more + length (text_of (drop (i + 1) cs)) = ap length (text-cons cs i h) ∙ length-append (bytes_of (get_or cs i 0)) (text_of (drop (i + 1) cs)) ∙ rw (← wide) in omega (arith, k.size_so_far, all);
        small = omega (arith, k.small, wide, size_most (get_or cs i 0));
        most = omega arith;
      }

  pub all-judged : length cs ≤ i → JudgedAs cs (record { scalar = scalars; size = size })
  all-judged h =
      record {
        scalar_is = sym (k.scalar_so_far ∙ rw (scalar-end cs h) (all_of scalars));
        size_is = let none : length (text_of (drop i cs)) ≡ 0 = rw (text-end cs h) in omega (arith, k.size_so_far, none);
      }

-- blocks are judged, and the rest is ahead
pub record Ahead (cs rest : List ℕ) (step : ℕ) (scalars : Bool) (size : ℕ) : Type 0 where
  pub scalar_so_far : all_scalar cs ≡ (scalars && all_scalar rest)
  pub size_so_far : length (text_of cs) ≡ size + length (text_of rest)
  pub short : step ≡ 4096

pub blocks-judged : {cs : List ℕ} (rest : List ℕ) {step : ℕ} {scalars : Bool} {size : ℕ} → length rest ≡ 0 → Ahead cs rest step scalars size → JudgedAs cs (record { scalar = scalars; size = size })
unfolding text_of all_scalar
blocks-judged [] {scalars = scalars} none k =
    record { scalar_is = sym (k.scalar_so_far ∙ all_of scalars); size_is = omega (arith, k.size_so_far) }
blocks-judged (c ∷ rest) none k = absurd (omega arith)

-- one more block is judged
pub next-block : {cs rest : List ℕ} {step : ℕ} {scalars : Bool} {size : ℕ} → Ahead cs rest step scalars size → (block left : List ℕ) → rest ≡ block ++ left → {step₁ : ℕ} → step₁ ≡ step → {r : Judged} → JudgedAs block r → Ahead cs left step₁ (scalars && r.scalar) (size + r.size)
next-block {scalars = scalars} k block left cut same {r} j =
    record {
      scalar_so_far = k.scalar_so_far ∙ ap (λ (l : List ℕ). scalars && all_scalar l) cut ∙ rw (scalar-append block left, ← j.scalar_is) (both scalars r.scalar (all_scalar left));
      size_so_far =
          let long = ap (λ (l : List ℕ). length (text_of l)) cut ∙ ap length (text-append block left) ∙ length-append (text_of block) (text_of left) in
          omega (arith, k.size_so_far, j.size_is, long);
      short = same ∙ k.short;
    }
