-- Laws of `firstTogether` and `Absent`: positions at which a literal does not stand, told by two of its bytes, one by one and 64 at once.
use Prim.Native.Nat.{ℕ, zero, suc, ◌+◌, ◌-◌, ◌≤◌, ◌<◌, max}
use mathlib.Core.Path.{◌≡◌, ◌∙◌, refl, sym}
use mathlib.Core.Bool.{Bool, true, false, cond, ◌&&◌, ◌||◌, not}
use mathlib.Core.List.{List}
use native.Mathlib.Omega.{arith}
use lib.Dec.{eqb}
use lib.ListN.{length, get_or}
use borrow.Author.Tests.{eq-eqb, not-true, not-false}
use Rattle.buffers.specs.Every.{every_below}
use Rattle.buffers.specs.Splice.{part}
use Rattle.buffers.proofs.Booleans.{de-morgan}
use Rattle.buffers.proofs.Cases.{le-or-lt, true-or-false, clash}
use Rattle.buffers.proofs.Every.{every-suc, every-at}
use Rattle.buffers.proofs.Splice.{part-index}
use Rattle.find.specs.Matching.{occurs_at, first_from}
use Rattle.find.specs.Searching.{together, apart_below, first_together, Absent}
use Rattle.find.proofs.Occurs.{occurs-inside, occurs-byte}
use Rattle.find.proofs.FirstFrom.{first-unique}

-- r is the least index from `from` up to `to` at which the two bytes stand together, or `to`
record Least (a b : List ℕ) (x y from to r : ℕ) : Type 0 where
  pub from_on : from ≤ r
  pub most : r ≤ to
  pub before : (k : ℕ) → from ≤ k → k < r → together a b x y k ≡ false
  pub there : r < to → together a b x y r ≡ true

module _ (a b : List ℕ) (x y : ℕ) where
  first-least : (n j : ℕ) → Least a b x y j (n + j) (first_together a b x y n j)
  unfolding first_together
  first-least zero j =
      record { from_on = omega arith; most = omega arith; before = λ k l m. absurd (omega arith); there = λ h. absurd (omega arith) }
  first-least (suc n) j =
      true-or-false (together a b x y j)
      (λ t. rw t (record { from_on = omega arith; most = omega arith; before = λ k l m. absurd (omega arith); there = λ h. t }))
      (λ f.
      let rest : Least a b x y (suc j) (n + suc j) (first_together a b x y n (suc j)) = first-least n (suc j) in
      rw f
      (record {
        from_on = omega (arith, rest.from_on);
        most = omega (arith, rest.most);
        before = λ k l m. le-or-lt k j (λ h. let is : k ≡ j = omega arith in rw is f) (λ h. rest.before k (omega arith) m);
        there = λ h. rest.there (omega arith);
      }))

-- so far: of the indices below n and below r the bytes stand together at none, and at r they do where r is below 64
pub record Candidate (a b : List ℕ) (x y n r : ℕ) : Type 0 where
  pub most : r ≤ 64
  pub before : (k : ℕ) → k < n → k < r → together a b x y k ≡ false
  pub there : r < 64 → together a b x y r ≡ true

-- the loop over a block, by how many indices are left from the first candidate on
pub no-candidate : {a b : List ℕ} {x y : ℕ} → Candidate a b x y 0 64
no-candidate = record { most = omega arith; before = λ k h l. absurd (omega arith); there = λ h. absurd (omega arith) }

module _ {a b : List ℕ} {x y left j : ℕ} (c : Candidate a b x y j (64 - left)) (h : j < 64) (few : left ≤ 64) {v left₁ : ℕ} (most : left₁ ≡ max left v) where
  candidate-hit : together a b x y j ≡ true → v ≡ 64 - j → Candidate a b x y (j + 1) (64 - left₁)
  candidate-hit t e =
      record {
        most = omega arith;
        before = λ k l m. c.before k (omega arith) (omega arith);
        there = λ l. le-or-lt v left
            (λ k. let is : 64 - left₁ ≡ 64 - left = omega arith in rw is (c.there (omega arith)))
            (λ k. let is : 64 - left₁ ≡ j = omega arith in rw is t);
      }

  candidate-miss : together a b x y j ≡ false → v ≡ 0 → Candidate a b x y (j + 1) (64 - left₁)
  candidate-miss f e =
      record {
        most = omega arith;
        before = λ k l m. le-or-lt j k (λ top. let is : k ≡ j = omega arith in rw is f) (λ below. c.before k below (omega arith));
        there = λ l. let is : 64 - left₁ ≡ 64 - left = omega arith in rw is (c.there (omega arith));
      }

  pub next-index : v ≡ cond (eqb (get_or a j 0) x && eqb (get_or b j 0) y) (64 - j) 0 → Candidate a b x y (j + 1) (64 - left₁) × (left₁ ≤ 64)
  unfolding together
  next-index e =
      true-or-false (eqb (get_or a j 0) x && eqb (get_or b j 0) y)
      (λ t. let is : v ≡ 64 - j = rw t at e in (candidate-hit t is, omega arith))
      (λ f. let is : v ≡ 0 = rw f at e in (candidate-miss f is, omega arith))

module _ {a b : List ℕ} {x y r : ℕ} where
  pub all-indices : {j : ℕ} → Candidate a b x y j r → j ≡ 64 → r ≡ first_together a b x y 64 0
  all-indices {j} c full =
      let q : ℕ = first_together a b x y 64 0 in
      let l : Least a b x y 0 64 q = first-least a b x y 64 0 in
      le-or-lt r q
      (λ h. le-or-lt q r (λ k. omega arith) (λ k. clash (together a b x y r) (c.there (omega (arith, l.most))) (l.before r (omega arith) k)))
      (λ h. clash (together a b x y q) (l.there (omega (arith, c.most))) (c.before q (omega (arith, c.most)) h))

  pub first-candidate : r ≡ first_together a b x y 64 0 → Candidate a b x y 64 r
  first-candidate is =
      let l : Least a b x y 0 64 r = rw is (first-least a b x y 64 0) in
      record { most = l.most; before = λ k m h. l.before k (omega arith) h; there = l.there }

-- the loop that only tells whether there is one
module _ (a b : List ℕ) (x y : ℕ) where
  pub apart_none : false ≡ not (apart_below a b x y 0)
  unfolding apart_below every_below
  apart_none = refl

  pub apart_more : (j : ℕ) {hit : Bool} → hit ≡ not (apart_below a b x y j) → (hit || (eqb (get_or a j 0) x && eqb (get_or b j 0) y)) ≡ not (apart_below a b x y (j + 1))
  unfolding apart_below together
  apart_more j is = rw (is, every-suc j (λ (k : ℕ). not (together a b x y k))) (de-morgan (every_below j (λ (k : ℕ). not (together a b x y k))) (together a b x y j))

  pub apart-candidate : {hit : Bool} → hit ≡ not (apart_below a b x y 64) → hit ≡ false → Candidate a b x y 64 64
  unfolding apart_below
  apart-candidate is f =
      let apart : ℕ → Bool = λ k. not (together a b x y k) in
      let all = not-false (every_below 64 apart) (sym is ∙ f) in
      record {
        most = omega arith;
        before = λ k h l. not-true (together a b x y k) (every-at 64 apart all k h);
        there = λ h. absurd (omega arith);
      }

pub absent_none : {text literal : List ℕ} {from : ℕ} → from ≤ length text → Absent text literal from from
absent_none h = record { onward = omega arith; most = h; not_there = λ k a b. absurd (omega arith) }

pub absent-on : {text literal : List ℕ} {from i to : ℕ} → Absent text literal from i → Absent text literal i to → Absent text literal from to
absent-on {i = i} p q =
    record {
      onward = omega (arith, p.onward, q.onward);
      most = q.most;
      not_there = λ k a b. le-or-lt i k (λ h. q.not_there k h b) (λ h. p.not_there k a h);
    }

-- one position
pub absent-one : {text literal : List ℕ} {from i to : ℕ} {r : Bool} → Absent text literal from i → r ≡ occurs_at text literal i → r ≡ false → Absent text literal (i + 1) to → Absent text literal from to
absent-one {i = i} p is away q =
    absent-on p
    (record {
      onward = omega (arith, q.onward);
      most = q.most;
      not_there = λ k a b. le-or-lt k i (λ h. let e : k ≡ i = omega arith in rw e (sym is ∙ away)) (λ h. q.not_there k (omega arith) b);
    })

-- positions of a block before its candidate
module _ (text literal : List ℕ) (i : ℕ) {j w : ℕ} (some : 0 < length literal) (width : w ≡ length literal - 1) (beside : j ≡ i + w) where
  occurs-together : (m : ℕ) → m < 64 → occurs_at text literal (i + m) ≡ true → together (part text i (i + 64)) (part text j (j + 64)) (get_or literal 0 0) (get_or literal w 0) m ≡ true
  unfolding together
  occurs-together m h o =
      let z : i + m + 0 ≡ i + m = omega arith in
      let far : i + m + w ≡ j + m = omega arith in
      let first : get_or (part text i (i + 64)) m 0 ≡ get_or literal 0 0 = part-index text i (i + 64) m (omega arith) ∙ (rw z at (occurs-byte text literal (i + m) 0 some o)) in
      let last : get_or (part text j (j + 64)) m 0 ≡ get_or literal w 0 = part-index text j (j + 64) m (omega arith) ∙ (rw far at (occurs-byte text literal (i + m) w (omega arith) o)) in
      rw (eq-eqb _ _ first, eq-eqb _ _ last)

  pub absent-block : {from r : ℕ} (m : ℕ) → Absent text literal from i → Candidate (part text i (i + 64)) (part text j (j + 64)) (get_or literal 0 0) (get_or literal w 0) 64 r → m ≤ 64 → m ≤ r → i + m ≤ length text → Absent text literal from (i + m)
  absent-block m p c h l inside =
      absent-on p
      (record {
        onward = omega arith;
        most = inside;
        not_there = λ k a b.
            let at : i + (k - i) ≡ k = omega arith in
            true-or-false (occurs_at text literal k)
            (λ t. clash _ (occurs-together (k - i) (omega arith) (rw at t)) (c.before (k - i) (omega arith) (omega arith)))
            (λ f. f);
      })

-- the first position, or none
module _ {text literal : List ℕ} {from i : ℕ} (p : Absent text literal from i) where
  pub first_found : {r : Bool} → r ≡ occurs_at text literal i → r ≡ true → i ≡ first_from text literal from
  first_found is met =
      first-unique (record { from = p.onward; most = p.most; before = p.not_there; occurs = λ k. sym is ∙ met })

  pub first-none : 0 < length literal → length text < i + length literal → length text ≡ first_from text literal from
  first-none some past =
      first-unique
      (record {
        from = omega (arith, p.onward, p.most);
        most = omega arith;
        before = λ k a b. le-or-lt i k
            (λ h. true-or-false (occurs_at text literal k) (λ t. absurd (omega (arith, occurs-inside text literal k some t))) (λ f. f))
            (λ h. p.not_there k a h);
        occurs = λ h. absurd (omega arith);
      })
