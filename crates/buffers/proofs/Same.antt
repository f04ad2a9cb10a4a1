-- Laws of `same`: it holds of equal lists alone; lists in two pieces, one value many times; a walk that compares
-- element by element.
use Prim.Native.Nat.{ℕ, zero, suc, ◌+◌, ◌≤◌, ◌<◌}
use mathlib.Core.Path.{◌≡◌, ◌∙◌, ap, refl, sym}
use mathlib.Core.Bool.{Bool, true, false, ◌&&◌, ◌||◌, and-true, and-false, and_assoc}
use mathlib.Mathlib.Data.Bool.Basic.{and_elim_left, and_elim_right}
use mathlib.Core.List.{List, [], ◌∷◌, ◌++◌}
use native.Mathlib.Numerals.{add-one}
use native.Mathlib.Omega.{arith}
use lib.Dec.{eqb}
use lib.ListN.{length, get_or, drop, replicate, drop_of_length-le}
use lib.Seq.{drop-cons}
use borrow.Author.Tests.{eqb-true, eq-eqb, ne_eqb}
use Rattle.buffers.specs.Same.{same}
use Rattle.buffers.proofs.Cases.{clash, true-or-false}

pub same_refl : (xs : List ℕ) → same xs xs ≡ true
same_refl [] = refl
same_refl (x ∷ xs) = rw (eq-eqb x x refl) (same_refl xs)

pub same-equal : (xs ys : List ℕ) → same xs ys ≡ true → xs ≡ ys
same-equal [] [] e = refl
same-equal [] (y ∷ ys) e = clash true refl (sym e)
same-equal (x ∷ xs) [] e = clash true refl (sym e)
same-equal (x ∷ xs) (y ∷ ys) e =
    rw (eqb-true x y (and_elim_left (eqb x y) _ e), same-equal xs ys (and_elim_right (eqb x y) _ e))

pub same-append : (a b c d : List ℕ) → length a ≡ length b → same (a ++ c) (b ++ d) ≡ (same a b && same c d)
same-append [] [] c d l = refl
same-append [] (y ∷ b) c d l = absurd (omega arith)
same-append (x ∷ a) [] c d l = absurd (omega arith)
same-append (x ∷ a) (y ∷ b) c d l =
    rw (same-append a b c d (omega arith)) (sym (and_assoc (eqb x y) (same a b) (same c d)))

pub same-replicate : (k a b : ℕ) → (eqb k 0 || eqb a b) ≡ same (replicate k a) (replicate k b)
same-replicate zero a b = refl
same-replicate (suc k) a b =
    let some : eqb (suc k) 0 ≡ false = ne_eqb (suc k) 0 (λ z. omega arith) in
    true-or-false (eqb a b)
    (λ t. rw (some, t, eqb-true a b t) (sym (same_refl (replicate k b))))
    (λ f. rw (some, f))

pub same-lengths : (xs ys : List ℕ) → (length xs ≡ length ys → ⊥) → false ≡ same xs ys
same-lengths [] [] h = absurd (h refl)
same-lengths [] (y ∷ ys) h = refl
same-lengths (x ∷ xs) [] h = refl
same-lengths (x ∷ xs) (y ∷ ys) h = rw (← same-lengths xs ys (λ e. h (ap suc e))) (sym (and-false (eqb x y)))

-- whether the lists are the same, by what was found up to i and by what is left from there on
pub record Compared (xs ys : List ℕ) (ok : Bool) (i : ℕ) : Type 0 where
  pub rest : same xs ys ≡ (ok && same (drop i xs) (drop i ys))
  pub most : i ≤ length xs

pub none-compared : {xs ys : List ℕ} → Compared xs ys true 0
none-compared = record { rest = refl; most = omega arith }

pub one-compared : {xs ys : List ℕ} {ok : Bool} {i : ℕ} → Compared xs ys ok i → length xs ≡ length ys → i < length xs → Compared xs ys (ok && eqb (get_or xs i 0) (get_or ys i 0)) (i + 1)
one-compared {xs = xs} {ys = ys} {ok = ok} {i = i} c l h =
    record {
      rest =
          c.rest
          ∙ rw (drop-cons xs i 0 h, drop-cons ys i 0 (omega arith), add-one i)
          (sym (and_assoc ok (eqb (get_or xs i 0) (get_or ys i 0)) (same (drop (suc i) xs) (drop (suc i) ys))));
      most = omega arith;
    }

pub all-compared : {xs ys : List ℕ} {ok : Bool} {i : ℕ} → Compared xs ys ok i → length xs ≡ length ys → length xs ≤ i → ok ≡ same xs ys
all-compared {xs = xs} {ys = ys} {ok = ok} {i = i} c l h =
    let past : length ys ≤ i = omega arith in
    sym (c.rest ∙ rw (drop_of_length-le xs h, drop_of_length-le ys past) (and-true ok))
