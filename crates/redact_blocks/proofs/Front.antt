-- Laws of `FrontOf`: the first bytes of a block compared without a way out, and what they tell of an occurrence.
use Prim.Native.Nat.{ℕ, ◌+◌, ◌-◌, ◌≤◌, min}
use mathlib.Core.Path.{◌≡◌, ◌∙◌, ap, sym}
use mathlib.Core.Bool.{Bool, true, false, ◌&&◌, ◌||◌, and-true}
use mathlib.Core.List.{List}
use native.Mathlib.Omega.{arith}
use lib.Dec.{eqb, leb}
use lib.ListN.{length, get_or, take, drop}
use lib.Seq.{get_or-take, take-take, take-length, length-take-le}
use borrow.Author.Tests.{le-leb, lt-leb}
use Rattle.buffers.specs.Splice.{part, splice}
use Rattle.buffers.specs.Same.{same}
use Rattle.buffers.proofs.Cases.{le-or-lt, true-or-false, clash}
use Rattle.buffers.proofs.Splice.{length_part, length-splice}
use Rattle.buffers.proofs.Same.{Compared, none-compared, one-compared, all-compared, same_refl}
use Rattle.find.specs.Matching.{occurs_at}
use Rattle.find.proofs.Occurs.{occurs-is}
use Rattle.replace.proofs.Columns.{content-padded}
use Rattle.redact_blocks.specs.Blanks.{FrontOf, FrontAt}

-- the first `few` elements of a and of b are compared up to j
pub record Fronted (few : ℕ) (a b : List ℕ) (ok : Bool) (j : ℕ) : Type 0 where
  pub far : few ≤ length a
  pub near : few ≤ length b
  pub walked : Compared (take few a) (take few b) ok (min few j)

pub none-fronted : {few : ℕ} {a b : List ℕ} → few ≤ length a → few ≤ length b → Fronted few a b true 0
none-fronted {few} far near = let z : min few 0 ≡ 0 = omega arith in record { far = far; near = near; walked = rw z none-compared }

module _ {few : ℕ} {a b : List ℕ} {ok : Bool} {j : ℕ} (w : Fronted few a b ok j) where
  long-a : length (take few a) ≡ few
  long-a = length-take-le few a w.far

  long-b : length (take few b) ≡ few
  long-b = length-take-le few b w.near

  pub one-fronted : Fronted few a b (ok && (eqb (get_or a j 0) (get_or b j 0) || leb few j)) (j + 1)
  one-fronted =
      record {
        far = w.far;
        near = w.near;
        walked = le-or-lt few j
            (λ past.
            let stays : min few (j + 1) ≡ min few j = omega arith in
            true-or-false (eqb (get_or a j 0) (get_or b j 0))
            (λ t. rw (stays, t, and-true ok) w.walked)
            (λ f. rw (stays, f, le-leb few j past, and-true ok) w.walked))
            (λ below.
            let next : min few (j + 1) ≡ j + 1 = omega arith in
            let here : min few j ≡ j = omega arith in
            let one : Compared (take few a) (take few b) (ok && eqb (get_or (take few a) j 0) (get_or (take few b) j 0)) (j + 1) =
            one-compared (rw here at w.walked) (omega (arith, long-a, long-b)) (omega (arith, long-a)) in
            let is : Compared (take few a) (take few b) (ok && eqb (get_or a j 0) (get_or b j 0)) (j + 1) =
            rw (get_or-take few a j 0 below, get_or-take few b j 0 below) at one in
            true-or-false (eqb (get_or a j 0) (get_or b j 0))
            (λ t. rw (next, t) (rw t at is))
            (λ f. rw (next, f, lt-leb few j below) (rw f at is)));
      }

  pub all-fronted : few ≤ j → ok ≡ same (take few a) (take few b)
  all-fronted past =
      let here : min few j ≡ few = omega arith in
      all-compared (rw here at w.walked) (omega (arith, long-a, long-b)) (omega (arith, long-a))

-- what the first bytes tell
module _ {text literal front : List ℕ} {p : ℕ} (w : FrontAt text literal front p) {few : ℕ} (least : few ≡ min 16 (length literal)) {ok : Bool} (is : ok ≡ same (take few (part text p (p + 16))) (take few front)) where
  told : ok ≡ same (take few (drop p text)) (take few literal)
  told =
      let block : p + 16 - p ≡ 16 = omega arith in
      is ∙ rw (block, take-take few 16 (drop p text) (omega arith), least, w.of_literal.front_is)

  pub front-differs : ok ≡ false → false ≡ occurs_at text literal p
  front-differs apart =
      true-or-false (occurs_at text literal p)
      (λ t.
      let n : p + length literal - p ≡ length literal = omega arith in
      let whole : take (length literal) (drop p text) ≡ literal = rw n at (occurs-is text literal p t) in
      let front_same : take few (drop p text) ≡ take few literal = sym (take-take few (length literal) (drop p text) (omega arith)) ∙ ap (take few) whole in
      clash ok (told ∙ rw front_same (same_refl (take few literal))) apart)
      (λ f. sym f)

  pub front_is_all : ok ≡ true → length literal ≤ 16 → true ≡ occurs_at text literal p
  unfolding occurs_at
  front_is_all equal short =
      let n : p + length literal - p ≡ length literal = omega arith in
      let all : few ≡ length literal = omega arith in
      sym equal ∙ told ∙ rw (n, all, take-length literal)

-- a literal's first bytes, copied
pub front-copied : (literal zeros : List ℕ) {few : ℕ} {front : List ℕ} → few ≡ min 16 (length literal) → length zeros ≡ 16 → front ≡ splice zeros 0 (part literal 0 few) → FrontOf literal front
front-copied literal zeros {few} {front} least size is =
    let long : length (part literal 0 few) ≡ few - 0 = length_part literal 0 few (omega arith) in
    let m : length (part literal 0 few) - 0 ≡ few = omega arith in
    let n : few - 0 ≡ few = omega arith in
    let same-front : part front 0 (length (part literal 0 few)) ≡ part literal 0 few = content-padded (part literal 0 few) zeros is in
    record {
      long = omega (arith, ap length is, length-splice zeros 0 (part literal 0 few) (omega arith));
      front_is = rw (← least) (rw (m, n) at same-front);
    }
