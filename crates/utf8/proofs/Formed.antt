-- Laws of what a lead byte announces and asks, and of a text that is well-formed from a place on at which columns are
-- still asked: each of them lies within 80..BF (`Later`).
use Prim.Native.Nat.{ℕ, zero, suc, ◌-◌, ◌≤◌, ◌<◌}
use mathlib.Core.Path.{◌≡◌, refl}
use mathlib.Core.Bool.{Bool, true, false, cond, false≢true}
use mathlib.Core.List.{List, [], ◌∷◌, ◌++◌}
use mathlib.Mathlib.Data.Bool.Basic.{and_intro, and_elim_left, and_elim_right}
use native.Mathlib.Omega.{arith}
use lib.Dec.{leb, ltb, eqb}
use lib.ListN.{length, get_or, take, drop}
use lib.Seq.{drop-nil, take-nil}
use borrow.Author.Tests.{leb-true, le-leb, lt-leb, le-ltb, lt-ltb, ne_eqb}
use Rattle.buffers.proofs.Cases.{clash, le-or-lt}
use Rattle.buffers.proofs.Booleans.{and-false-l, and_false_r}
use Rattle.utf8.specs.Table.{Bytes, bytes, within, trail}
use Rattle.utf8.specs.Formed.{announced, second_low, second_high, second, asked, formed, well_formed, continues}

-- what a byte announces, by its row of Table 3-7
module _ (b : ℕ) where
  pub announced-one : b < 0x80 → announced b ≡ 1
  unfolding announced
  announced-one h = simp (lt-ltb b 0x80 h)

  pub announced-none : 0x80 ≤ b → b < 0xC2 → announced b ≡ 0
  unfolding announced
  announced-none l h = simp (le-ltb b 0x80 l, lt-ltb b 0xC2 h)

  pub announced-two : 0xC2 ≤ b → b < 0xE0 → announced b ≡ 2
  unfolding announced
  announced-two l h = simp (le-ltb b 0x80 (omega arith), le-ltb b 0xC2 l, lt-ltb b 0xE0 h)

  pub announced-three : 0xE0 ≤ b → b < 0xF0 → announced b ≡ 3
  unfolding announced
  announced-three l h =
      simp (le-ltb b 0x80 (omega arith), le-ltb b 0xC2 (omega arith), le-ltb b 0xE0 l, lt-ltb b 0xF0 h)

  pub announced-four : 0xF0 ≤ b → b < 0xF5 → announced b ≡ 4
  unfolding announced
  announced-four l h =
      simp (le-ltb b 0x80 (omega arith), le-ltb b 0xC2 (omega arith), le-ltb b 0xE0 (omega arith), le-ltb b 0xF0 l, lt-ltb b 0xF5 h)

  pub announced-past : 0xF5 ≤ b → announced b ≡ 0
  unfolding announced
  announced-past l =
      simp (le-ltb b 0x80 (omega arith), le-ltb b 0xC2 (omega arith), le-ltb b 0xE0 (omega arith), le-ltb b 0xF0 (omega arith), le-ltb b 0xF5 l)

  pub announced-lead : 0xC2 ≤ b → b < 0xF5 → ltb 0 (announced b) ≡ true
  announced-lead l h =
      le-or-lt 0xE0 b
      (λ more. le-or-lt 0xF0 b (λ four. rw (announced-four four h)) (λ three. rw (announced-three more three)))
      (λ two. rw (announced-two l two))

  pub asked-one : b < 0x80 → asked b ≡ []
  unfolding asked
  asked-one h = rw (announced-one h)

  pub asked-two : 0xC2 ≤ b → b < 0xE0 → asked b ≡ second b ∷ []
  unfolding asked
  asked-two l h = rw (announced-two l h)

  pub asked-three : 0xE0 ≤ b → b < 0xF0 → asked b ≡ second b ∷ trail ∷ []
  unfolding asked
  asked-three l h = rw (announced-three l h)

  pub asked-four : 0xF0 ≤ b → b < 0xF5 → asked b ≡ second b ∷ trail ∷ trail ∷ []
  unfolding asked
  asked-four l h = rw (announced-four l h)

  -- a byte that announces a character continues none
  pub lead-begins : ltb 0 (announced b) ≡ true → continues b ≡ false
  unfolding continues within
  lead-begins e =
      le-or-lt 0x80 b
      (λ high. le-or-lt 0xC2 b
      (λ top. and_false_r (leb 0x80 b) _ (lt-leb b 0xBF (omega arith)))
      (λ none. clash false (rw (announced-none high none) at e) refl))
      (λ low. and-false-l (leb 0x80 b) (leb b 0xBF) (lt-leb 0x80 b low))

  pub continues-low : continues b ≡ true → 0x80 ≤ b
  unfolding continues within
  continues-low e = leb-true 0x80 b (and_elim_left _ (leb b 0xBF) e)

  pub continues-high : continues b ≡ true → b < 0xC0
  unfolding continues within
  continues-high e = omega (arith, leb-true b 0xBF (and_elim_right (leb 0x80 b) _ e))

cond_either : {A : Type 0} (P : A → Type 0) (t : Bool) {x y : A} → P x → P y → P (cond t x y)
cond_either P true p q = p
cond_either P false p q = q

-- what holds of each of the numbers that are announced
announced-either : (P : ℕ → Type 0) → P 0 → P 1 → P 2 → P 3 → P 4 → (b : ℕ) → P (announced b)
unfolding announced
announced-either P p0 p1 p2 p3 p4 b =
    cond_either P (ltb b 0x80) p1
    (cond_either P (ltb b 0xC2) p0
    (cond_either P (ltb b 0xE0) p2
    (cond_either P (ltb b 0xF0) p3
    (cond_either P (ltb b 0xF5) p4 p0))))

pub announced-small : (b : ℕ) → announced b ≤ 4
announced-small = announced-either (λ n. n ≤ 4) (omega arith) (omega arith) (omega arith) (omega arith) (omega arith)

pub length-asked : (b : ℕ) → length (asked b) ≡ announced b - 1
unfolding asked
length-asked b =
    announced-either
    (λ n. length (cond (eqb n 2) (second b ∷ []) (cond (eqb n 3) (second b ∷ trail ∷ []) (cond (eqb n 4) (second b ∷ trail ∷ trail ∷ []) []))) ≡ n - 1)
    refl refl refl refl refl b

second-low : (b : ℕ) → 0x80 ≤ second_low b
second-low b =
    cond_either (λ n. 0x80 ≤ n) (eqb b 0xE0) (omega arith) (cond_either (λ n. 0x80 ≤ n) (eqb b 0xF0) (omega arith) (omega arith))

second-high : (b : ℕ) → second_high b ≤ 0xBF
second-high b =
    cond_either (λ n. n ≤ 0xBF) (eqb b 0xED) (omega arith) (cond_either (λ n. n ≤ 0xBF) (eqb b 0xF4) (omega arith) (omega arith))

-- below E0 a lead byte asks no narrower second byte
pub second-trail : (b : ℕ) → b < 0xE0 → second b ≡ trail
unfolding second
second-trail b h =
    simp (ne_eqb b 0xE0 (λ e. omega arith), ne_eqb b 0xF0 (λ e. omega arith), ne_eqb b 0xED (λ e. omega arith), ne_eqb b 0xF4 (λ e. omega arith))

-- columns after the first
pub data Later : List Bytes → Type 0 where
  none : Later []
  one : {low high : ℕ} {r : List Bytes} → 0x80 ≤ low → high ≤ 0xBF → Later r → Later (bytes low high ∷ r)

trail-later : {r : List Bytes} → Later r → Later (trail ∷ r)
trail-later p = one {low = 0x80} {high = 0xBF} (omega arith) (omega arith) p

pub asked-later : (b : ℕ) → Later (asked b)
unfolding asked second
asked-later b =
    cond_either Later (eqb (announced b) 2) (one (second-low b) (second-high b) none)
    (cond_either Later (eqb (announced b) 3) (one (second-low b) (second-high b) (trail-later none))
    (cond_either Later (eqb (announced b) 4) (one (second-low b) (second-high b) (trail-later (trail-later none))) none))

-- a byte of a column after the first continues a character
pub later-continues : {c : Bytes} {r : List Bytes} (b : ℕ) → Later (c ∷ r) → within c b ≡ true → continues b ≡ true
unfolding continues within
later-continues {c = bytes low high} b (one l h _) e =
    and_intro
    (le-leb 0x80 b (omega (arith, leb-true low b (and_elim_left (leb low b) (leb b high) e))))
    (le-leb b 0xBF (omega (arith, leb-true b high (and_elim_right (leb low b) (leb b high) e))))

pub later-rest : {c : Bytes} {r : List Bytes} → Later (c ∷ r) → Later r
later-rest (one l h p) = p

pub second-continues : (a b : ℕ) → within (second a) b ≡ true → continues b ≡ true
unfolding second
second-continues a b e = later-continues {c = second a} b (one (second-low a) (second-high a) none) e

pub formed-lead : (b : ℕ) (s : List ℕ) → well_formed (b ∷ s) ≡ true → ltb 0 (announced b) ≡ true
unfolding formed
formed-lead b s p = and_elim_left (ltb 0 (announced b)) _ p

pub formed-rest : (b : ℕ) (s : List ℕ) → well_formed (b ∷ s) ≡ true → formed (asked b) s ≡ true
unfolding formed
formed-rest b s p = and_elim_right (ltb 0 (announced b)) _ p

-- joining
pub formed-append : (r : List Bytes) (s t : List ℕ) → formed r s ≡ true → well_formed t ≡ true → formed r (s ++ t) ≡ true
unfolding formed
formed-append [] [] t p q = q
formed-append (c ∷ r) [] t p q = absurd (false≢true p)
formed-append [] (b ∷ s) t p q = and_intro (formed-lead b s p) (formed-append (asked b) s t (formed-rest b s p) q)
formed-append (c ∷ r) (b ∷ s) t p q =
    and_intro (and_elim_left (within c b) _ p) (formed-append r s t (and_elim_right (within c b) _ p) q)

-- cutting before a byte that continues none
pub formed-cut : (r : List Bytes) (s : List ℕ) (i : ℕ) → Later r → formed r s ≡ true → continues (get_or s i 0) ≡ false → (formed r (take i s) ≡ true) × (well_formed (drop i s) ≡ true)
unfolding formed
formed-cut [] [] i l p q = (rw (take-nil i), rw (drop-nil i))
formed-cut (c ∷ r) [] i l p q = absurd (false≢true p)
formed-cut [] (b ∷ s) zero l p q = (refl, p)
formed-cut (c ∷ r) (b ∷ s) zero l p q = clash (continues b) (later-continues b l (and_elim_left (within c b) _ p)) q
formed-cut [] (b ∷ s) (suc i) l p q =
    let more = formed-cut (asked b) s i (asked-later b) (formed-rest b s p) q in (and_intro (formed-lead b s p) more.0, more.1)
formed-cut (c ∷ r) (b ∷ s) (suc i) l p q =
    let more = formed-cut r s i (later-rest l) (and_elim_right (within c b) _ p) q in
    (and_intro (and_elim_left (within c b) _ p) more.0, more.1)

-- the converse: a part that is well-formed ends before a byte that continues none
pub begins-after : (r : List Bytes) (s : List ℕ) (i : ℕ) → formed r s ≡ true → formed r (take i s) ≡ true → continues (get_or s i 0) ≡ false
unfolding formed continues within
begins-after r [] i p q = refl
begins-after [] (b ∷ s) zero p q = lead-begins b (formed-lead b s p)
begins-after (c ∷ r) (b ∷ s) zero p q = absurd (false≢true q)
begins-after [] (b ∷ s) (suc i) p q = begins-after (asked b) s i (formed-rest b s p) (formed-rest b (take i s) q)
begins-after (c ∷ r) (b ∷ s) (suc i) p q = begins-after r s i (and_elim_right (within c b) _ p) (and_elim_right (within c b) _ q)

-- the columns asked are bytes of the text, and continue the character that the byte after them does not
pub asked-inside : (r : List Bytes) (s : List ℕ) → formed r s ≡ true → length r ≤ length s
unfolding formed
asked-inside [] s p = omega arith
asked-inside (c ∷ r) [] p = absurd (false≢true p)
asked-inside (c ∷ r) (b ∷ s) p = omega (arith, asked-inside r s (and_elim_right (within c b) _ p))

pub asked-continue : (r : List Bytes) (s : List ℕ) → Later r → formed r s ≡ true → (i : ℕ) → i < length r → continues (get_or s i 0) ≡ true
unfolding formed
asked-continue [] s l p i h = absurd (omega arith)
asked-continue (c ∷ r) [] l p i h = absurd (false≢true p)
asked-continue (c ∷ r) (b ∷ s) l p zero h = later-continues b l (and_elim_left (within c b) _ p)
asked-continue (c ∷ r) (b ∷ s) l p (suc i) h = asked-continue r s (later-rest l) (and_elim_right (within c b) _ p) i (omega arith)

pub asked-end : (r : List Bytes) (s : List ℕ) → formed r s ≡ true → continues (get_or s (length r) 0) ≡ false
unfolding formed continues within
asked-end r [] p = refl
asked-end [] (b ∷ s) p = lead-begins b (formed-lead b s p)
asked-end (c ∷ r) (b ∷ s) p = asked-end r s (and_elim_right (within c b) _ p)
