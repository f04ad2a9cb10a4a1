-- Laws of Table 3-7's rows: they and the working form are the same.
-- The rows and what a lead byte announces and asks are compared at each of the 256 bytes, by a test that antt computes.
use Prim.Native.Nat.{ℕ, ◌≤◌}
use mathlib.Core.Path.{◌≡◌, ◌∙◌, ap, refl, sym}
use mathlib.Core.Bool.{Bool, true, false, cond, ◌&&◌, ◌||◌, beq, false≢true}
use mathlib.Core.List.{List, [], ◌∷◌, ◌++◌}
use mathlib.Mathlib.Data.Bool.Basic.{and_intro, and_elim_left, and_elim_right}
use native.Mathlib.Omega.{arith}
use lib.Dec.{leb, ltb, eqb}
use borrow.Author.Tests.{eqb-true, ltb-true, lt-leb}
use Rattle.buffers.specs.Every.{every_below}
use Rattle.buffers.proofs.Cases.{le-or-lt}
use Rattle.buffers.proofs.Booleans.{and-false-l, and_false_r, beq_same}
use Rattle.buffers.proofs.Every.{every-at}
use Rattle.utf8.specs.Table.{Bytes, bytes, within, rows, of_row, of_some, WellFormed, none, next}
use Rattle.utf8.specs.Formed.{announced, second, asked, formed, well_formed, TableAgrees}
use Rattle.utf8.proofs.Formed.{announced-past, formed-lead, formed-rest, formed-append}

-- some row has b in its first column
unfoldable begun : ℕ → List (List Bytes) → Bool
begun b [] = false
begun b ([] ∷ rs) = begun b rs
begun b ((c ∷ cs) ∷ rs) = within c b || begun b rs

unfoldable same_columns : List Bytes → List Bytes → Bool
same_columns [] [] = true
same_columns [] (c ∷ cs) = false
same_columns (c ∷ cs) [] = false
same_columns (bytes a b ∷ cs) (bytes d e ∷ ds) = (eqb a d && eqb b e) && same_columns cs ds

same-columns : (cs ds : List Bytes) → same_columns cs ds ≡ true → cs ≡ ds
unfolding same_columns
same-columns [] [] t = refl
same-columns [] (c ∷ cs) t = absurd (false≢true t)
same-columns (c ∷ cs) [] t = absurd (false≢true t)
same-columns (bytes a b ∷ cs) (bytes d e ∷ ds) t =
    let both : (eqb a d && eqb b e) ≡ true = and_elim_left _ (same_columns cs ds) t in
    rw (eqb-true a d (and_elim_left _ _ both), eqb-true b e (and_elim_right (eqb a d) _ both), same-columns cs ds (and_elim_right (eqb a d && eqb b e) _ t))

-- each row that has b in its first column goes on with the columns r
unfoldable goes_on : ℕ → List Bytes → List (List Bytes) → Bool
goes_on b r [] = true
goes_on b r ([] ∷ rs) = goes_on b r rs
goes_on b r ((c ∷ cs) ∷ rs) = cond (within c b) (same_columns cs r) true && goes_on b r rs

-- what one more row adds: w is whether it has the lead byte, x whether the rest is in its other columns
one-row : (w x y l z : Bool) → (w ≡ true → x ≡ z) → y ≡ (l && z) → ((w && x) || y) ≡ ((w || l) && z)
one-row true true y l z p q = p refl
one-row true false y true z p q = q
one-row true false y false z p q = q ∙ p refl
one-row false x y l z p q = q

of_some-cons : (b : ℕ) (r : List Bytes) (rs : List (List Bytes)) (s : List ℕ) → goes_on b r rs ≡ true → of_some rs (b ∷ s) ≡ (begun b rs && of_row r s)
unfolding of_some of_row begun goes_on
of_some-cons b r [] s t = refl
of_some-cons b r ([] ∷ rs) s t = of_some-cons b r rs s t
of_some-cons b r ((c ∷ cs) ∷ rs) s t =
    one-row (within c b) (of_row cs s) (of_some rs (b ∷ s)) (begun b rs) (of_row r s)
    (λ w. ap (λ (q : List Bytes). of_row q s) (same-columns cs r (rw w at (and_elim_left (cond (within c b) (same_columns cs r) true) (goes_on b r rs) t))))
    (of_some-cons b r rs s (and_elim_right (cond (within c b) (same_columns cs r) true) _ t))

-- the rows and the working form agree on the byte b
unfoldable agree_on : ℕ → Bool
agree_on b = goes_on b (asked b) rows && beq (begun b rows) (ltb 0 (announced b))

on-bytes : every_below 256 agree_on ≡ true
unfolding every_below agree_on goes_on asked rows begun announced second same_columns within
on-bytes = refl

-- each row's first column ends below 256
unfoldable ends : List (List Bytes) → Bool
ends [] = true
ends ([] ∷ rs) = ends rs
ends ((bytes low high ∷ cs) ∷ rs) = ltb high 256 && ends rs

of_some-past : (b : ℕ) (rs : List (List Bytes)) (s : List ℕ) → 256 ≤ b → ends rs ≡ true → of_some rs (b ∷ s) ≡ false
unfolding ends of_some of_row within
of_some-past b [] s big t = refl
of_some-past b ([] ∷ rs) s big t = of_some-past b rs s big t
of_some-past b ((bytes low high ∷ cs) ∷ rs) s big t =
    let past : leb b high ≡ false = lt-leb b high (omega (arith, ltb-true high 256 (and_elim_left _ (ends rs) t))) in
    rw (and-false-l _ (of_row cs s) (and_false_r (leb low b) _ past)) (of_some-past b rs s big (and_elim_right (ltb high 256) _ t))

-- a sequence of some row is a byte that announces one, and then what that byte asks
pub of_some-lead : (b : ℕ) (s : List ℕ) → of_some rows (b ∷ s) ≡ (ltb 0 (announced b) && of_row (asked b) s)
unfolding agree_on ends rows
of_some-lead b s =
    le-or-lt 256 b
    (λ big. of_some-past b rows s big refl ∙ rw (announced-past b (omega arith)))
    (λ small.
    let t : agree_on b ≡ true = every-at 256 agree_on on-bytes b small in
    of_some-cons b (asked b) rows s (and_elim_left _ _ t)
    ∙ ap (λ (l : Bool). l && of_row (asked b) s) (beq_same (begun b rows) _ (and_elim_right (goes_on b (asked b) rows) _ t)))

row-formed : (cs : List Bytes) (s : List ℕ) → of_row cs s ≡ true → formed cs s ≡ true
unfolding of_row formed
row-formed [] [] p = refl
row-formed [] (b ∷ s) p = absurd (false≢true p)
row-formed (c ∷ cs) [] p = p
row-formed (c ∷ cs) (b ∷ s) p =
    and_intro (and_elim_left (within c b) _ p) (row-formed cs s (and_elim_right (within c b) _ p))

pub sequence-formed : (s : List ℕ) → of_some rows s ≡ true → well_formed s ≡ true
unfolding formed
sequence-formed [] p = refl
sequence-formed (b ∷ s) p =
    let lead : (ltb 0 (announced b) && of_row (asked b) s) ≡ true = sym (of_some-lead b s) ∙ p in
    and_intro (and_elim_left (ltb 0 (announced b)) _ lead) (row-formed (asked b) s (and_elim_right (ltb 0 (announced b)) _ lead))

-- what the columns cs ask, and then a text that is well-formed row by row
record Cut (cs : List Bytes) (s : List ℕ) : Type 0 where
  head : List ℕ
  rest : List ℕ
  is : s ≡ head ++ rest
  asks : of_row cs head ≡ true
  well : WellFormed rest

cut : (cs : List Bytes) (s : List ℕ) → formed cs s ≡ true → Cut cs s
unfolding formed of_row
cut [] [] t = record { head = []; rest = []; is = refl; asks = refl; well = none }
cut (c ∷ cs) [] t = absurd (false≢true t)
cut [] (b ∷ s) t =
    let k : Cut (asked b) s = cut (asked b) s (formed-rest b s t) in
    let one : of_some rows (b ∷ k.head) ≡ true = of_some-lead b k.head ∙ and_intro (formed-lead b s t) k.asks in
    record { head = []; rest = b ∷ s; is = refl; asks = refl; well = rw k.is (next (b ∷ k.head) k.rest one k.well) }
cut (c ∷ cs) (b ∷ s) t =
    let k : Cut cs s = cut cs s (and_elim_right (within c b) _ t) in
    record {
      head = b ∷ k.head;
      rest = k.rest;
      is = ap (◌∷◌ b) k.is;
      asks = and_intro (and_elim_left (within c b) _ t) k.asks;
      well = k.well;
    }

whole : (s h t : List ℕ) → s ≡ h ++ t → of_row [] h ≡ true → WellFormed t → WellFormed s
unfolding of_row
whole s [] t e p w = rw e w
whole s (b ∷ h) t e p w = absurd (false≢true p)

by_rows : (s : List ℕ) → WellFormed s → well_formed s ≡ true
unfolding formed
by_rows _ none = refl
by_rows _ (next s t p w) = formed-append [] s t (sequence-formed s p) (by_rows t w)

pub table-agrees : TableAgrees
table-agrees s =
    (by_rows s, (λ t. let k : Cut [] s = cut [] s t in whole s k.head k.rest k.is k.asks k.well))
