-- Laws of `pending` and `invalid`: the tests without branches, shorter where there are no long characters.
-- A byte too far back to lead a long character counts as 0.
use Rattle.std.proofs.Common.{◌≡◌, ℕ, ◌+◌, ◌-◌, ◌<◌, ◌≤◌, max, Bool, true, false, cond, not, ◌&&◌, ◌||◌, eqb, ltb, leb, sym, refl, ◌∙◌, add-zero, arith, le-ltb, lt-ltb, eq-eqb, ne_eqb, eqb-true, le-leb}
use mathlib.Core.Bool.{xor, and-true, and-false, or-false}
use mathlib.Mathlib.Data.Bool.Basic.{or-eq-false-eq-eq-false-and-eq-false}
use borrow.Author.Tests.{lt-leb}
use Rattle.buffers.proofs.Cases.{clash, true-or-false, le-or-lt}
use Rattle.utf8.specs.Table.{bytes, within, trail}
use Rattle.utf8.specs.Formed.{second}
use Rattle.utf8.proofs.Formed.{second-trail, second-continues, continues-high}
use Rattle.validity_blocks.specs.Extremes.{from_lead, LeadBetween}
use Rattle.validity_blocks.specs.Valid.{pending, never, invalid}

module _ (b3 b2 b1 : ℕ) where
  pub pending-1 : 0xC0 ≤ b1 → pending b3 b2 b1 ≡ true
  unfolding pending
  pending-1 h = simp (le-leb 0xC0 b1 h)

  pub pending-2 : b1 < 0xC0 → 0xE0 ≤ b2 → pending b3 b2 b1 ≡ true
  unfolding pending
  pending-2 h k = simp (lt-leb 0xC0 b1 h, le-leb 0xE0 b2 k)

  pub pending-3 : b1 < 0xC0 → b2 < 0xE0 → 0xF0 ≤ b3 → pending b3 b2 b1 ≡ true
  unfolding pending
  pending-3 h k l = simp (lt-leb 0xC0 b1 h, lt-leb 0xE0 b2 k, le-leb 0xF0 b3 l)

  pub pending-none : b1 < 0xC0 → b2 < 0xE0 → b3 < 0xF0 → pending b3 b2 b1 ≡ false
  unfolding pending
  pending-none h k l = simp (lt-leb 0xC0 b1 h, lt-leb 0xE0 b2 k, lt-leb 0xF0 b3 l)

  -- where none is pending, a byte below 80 can stand
  pub valid-ascii : (b : ℕ) → b1 < 0xC0 → b2 < 0xE0 → b3 < 0xF0 → b < 0x80 → not (invalid b3 b2 b1 b) ≡ true
  unfolding invalid xor never within
  valid-ascii b h k l low =
      rw (pending-none h k l, second-trail b1 (omega arith), lt-leb 0x80 b low, lt-leb 0xC0 b (omega arith), lt-leb 0xF5 b (omega arith))

-- a column narrower than 80..BF is that column without what is below it, or above it
above : (low b : ℕ) → 0x80 ≤ low → within (bytes low 0xBF) b ≡ (within trail b && not (ltb b low))
unfolding within
above low b least =
    le-or-lt low b
    (λ h. rw (le-leb low b h, le-leb 0x80 b (omega arith), le-ltb b low h) (sym (and-true (leb b 0xBF))))
    (λ h. rw (lt-leb low b h, lt-ltb b low h) (sym (and-false (within trail b))))

below : (high b : ℕ) → high ≤ 0xBF → within (bytes 0x80 high) b ≡ (within trail b && not (ltb high b))
unfolding within
below high b most =
    le-or-lt b high
    (λ h. rw (le-leb b high h, le-leb b 0xBF (omega arith), le-ltb high b h) (sym (and-true (leb 0x80 b && true))))
    (λ h. rw (lt-leb b high h, lt-ltb high b h) (and-false (leb 0x80 b) ∙ sym (and-false (within trail b))))

-- b1 asks for a second byte of less than 80..BF, and b0 is below or above that
unfoldable pub odd : ℕ → ℕ → Bool
odd b1 b0 = (eqb b1 0xE0 && ltb b0 0xA0) || (eqb b1 0xED && ltb 0x9F b0) || (eqb b1 0xF0 && ltb b0 0x90) || (eqb b1 0xF4 && ltb 0x8F b0)

second-odd : (b1 b0 : ℕ) → within (second b1) b0 ≡ (within trail b0 && not (odd b1 b0))
unfolding second odd
second-odd b1 b0 =
    true-or-false (eqb b1 0xE0)
    (λ e. rw (eqb-true b1 0xE0 e) (simp or-false (above 0xA0 b0 (omega arith))))
    (λ n1. true-or-false (eqb b1 0xED)
    (λ e. rw (eqb-true b1 0xED e) (simp or-false (below 0x9F b0 (omega arith))))
    (λ n2. true-or-false (eqb b1 0xF0)
    (λ e. rw (eqb-true b1 0xF0 e) (simp or-false (above 0x90 b0 (omega arith))))
    (λ n3. true-or-false (eqb b1 0xF4)
    (λ e. rw (eqb-true b1 0xF4 e) (below 0x8F b0 (omega arith)))
    (λ n4. rw (n1, n2, n3, n4) (sym (and-true (within trail b0)))))))

odd-lead : (b1 b0 : ℕ) → odd b1 b0 ≡ true → 0xC0 ≤ b1
unfolding odd
odd-lead b1 b0 e =
    le-or-lt 0xC0 b1 (λ h. h)
    (λ low. clash (odd b1 b0) e (simp (ne_eqb b1 0xE0 (λ k. omega arith), ne_eqb b1 0xED (λ k. omega arith), ne_eqb b1 0xF0 (λ k. omega arith), ne_eqb b1 0xF4 (λ k. omega arith))))

-- what is odd is invalid, since it comes only after a lead byte
odd-apart : (p t n o : Bool) → (o ≡ true → p ≡ true) → (xor p t || n || o) ≡ (xor p (t && not o) || n)
unfolding xor
odd-apart p true n false lead = or-false (xor p true || n)
odd-apart p false n false lead = or-false (xor p false || n)
odd-apart true true true true lead = refl
odd-apart true true false true lead = refl
odd-apart true false n true lead = refl
odd-apart false t n true lead = clash false (lead refl) refl

pub invalid-four : (b3 b2 b1 b0 : ℕ) → (xor (pending b3 b2 b1) (within trail b0) || never b0 || odd b1 b0) ≡ invalid b3 b2 b1 b0
unfolding invalid
invalid-four b3 b2 b1 b0 = rw (second-odd b1 b0) (odd-apart _ _ _ _ (λ e. pending-1 b3 b2 b1 (odd-lead b1 b0 e)))

high-low : (n b : ℕ) → ltb n b ≡ not (ltb b (n + 1))
high-low n b =
    le-or-lt (n + 1) b
    (λ high. rw (le-ltb b (n + 1) high, lt-ltb n b (omega arith)))
    (λ low. rw (lt-ltb b (n + 1) low, le-ltb n b (omega arith)))

-- between C0 and E0 there is no byte that counts 21 or more
plain-high : {n b : ℕ} → LeadBetween 0x21 n b → n ≤ 0xF4 → 0xC0 ≤ b → 0xE1 ≤ b
unfolding from_lead
plain-high p most h = omega (arith, p.far, p.low)

-- the larger of two plain bytes tells whether a character is pending, and a third byte counted from 30 on
plain-pending : {n b2 m : ℕ} (b3 b1 : ℕ) → LeadBetween 0x21 n b2 → n ≤ 0xF4 → m ≡ max (max b1 b2) (b3 - 0x30) → leb 0xC0 m ≡ pending b3 b2 b1
plain-pending {n} {b2} {m} b3 b1 p most larger =
    le-or-lt 0xC0 b1
    (λ h. le-leb 0xC0 m (omega arith) ∙ sym (pending-1 b3 b2 b1 h))
    (λ low1. le-or-lt 0xC0 b2
    (λ h. le-leb 0xC0 m (omega arith) ∙ sym (pending-2 b3 b2 b1 low1 (omega (arith, plain-high p most h))))
    (λ low2. le-or-lt 0xF0 b3
    (λ h. le-leb 0xC0 m (omega arith) ∙ sym (pending-3 b3 b2 b1 low1 (omega arith) h))
    (λ low3. lt-leb 0xC0 m (omega arith) ∙ sym (pending-none b3 b2 b1 low1 (omega arith) low3))))

never-low : (b : ℕ) → b < 0xC0 → never b ≡ false
unfolding never
never-low b h = simp (lt-leb 0xC0 b h, lt-leb 0xF5 b (omega arith))

between-never : {l n b : ℕ} → LeadBetween l n b → 2 ≤ l → n ≤ 0xF4 → never b ≡ false
unfolding never from_lead
between-never {b = b} p least most =
    le-or-lt 0xC0 b
    (λ h. simp (le-ltb b 0xC2 (omega (arith, p.far, p.low)), lt-leb 0xF5 b (omega (arith, p.low)), and-false))
    (λ low. never-low b low)

-- of the lead bytes from E1 to F3 two ask for a second byte of less than 80..BF
plain_second : {n b : ℕ} → LeadBetween 0x21 n b → n ≤ 0xF4 → eqb b 0xED ≡ false → eqb b 0xF0 ≡ false → second b ≡ trail
unfolding second from_lead
plain_second {n} {b} p most d f = rw (ne_eqb b 0xE0 (λ e. omega (arith, p.far)), d, f, ne_eqb b 0xF4 (λ e. omega (arith, p.low)))

pub invalid-plain : {b2 b1 b0 m : ℕ} → LeadBetween 0x21 0xED b2 → LeadBetween 0x21 0xED b1 → LeadBetween 0x21 0xED b0 → m ≡ max b1 b2 → xor (leb 0xC0 m) (within trail b0) ≡ invalid 0 b2 b1 b0
unfolding invalid
invalid-plain {b2} {b1} {b0} {m} p2 p1 p0 larger =
    let alone : m ≡ max (max b1 b2) (0 - 0x30) = omega arith in
    rw (plain-pending 0 b1 p2 (omega arith) alone, plain_second p1 (omega arith) (ne_eqb b1 0xED (λ e. omega (arith, p1.low))) (ne_eqb b1 0xF0 (λ e. omega (arith, p1.low))), between-never p0 (omega arith) (omega arith))
    (sym (or-false (xor (pending 0 b2 b1) (within trail b0))))

-- a column narrower than 80..BF, by what it is without
narrower : (t high : Bool) → (xor true t || not (t && not high)) ≡ xor true (t && not high)
unfolding xor
narrower true true = refl
narrower true false = refl
narrower false high = refl

wider : (t low : Bool) → (xor true t || (t && not (not low))) ≡ xor true (t && not low)
unfolding xor
wider true true = refl
wider true false = refl
wider false low = refl

-- without characters of four bytes: the larger of b1 and b2, counted from 20 on, tells whether one is pending
three-pending : {m : ℕ} (b2 b1 : ℕ) → m ≡ max b1 (b2 - 0x20) → leb 0xC0 m ≡ pending 0 b2 b1
three-pending {m} b2 b1 larger =
    le-or-lt 0xC0 b1
    (λ h. le-leb 0xC0 m (omega arith) ∙ sym (pending-1 0 b2 b1 h))
    (λ low1. le-or-lt 0xE0 b2
    (λ h. le-leb 0xC0 m (omega arith) ∙ sym (pending-2 0 b2 b1 low1 h))
    (λ low2. lt-leb 0xC0 m (omega arith) ∙ sym (pending-none 0 b2 b1 low1 low2 (omega arith))))

-- E0 and ED are 0D apart
three-odd : (b1 : ℕ) (low : Bool) → eqb (b1 + cond low 0x0D 0) 0xED ≡ ((eqb b1 0xE0 && low) || (eqb b1 0xED && not low))
three-odd b1 true = true-or-false (eqb b1 0xE0) (λ e. rw (eqb-true b1 0xE0 e) refl) (λ n. rw n (ne_eqb (b1 + 0x0D) 0xED (λ e. clash (eqb b1 0xE0) (eq-eqb b1 0xE0 (omega (arith, e))) n) ∙ sym (and-false (eqb b1 0xED))))
three-odd b1 false = rw (add-zero b1, and-false (eqb b1 0xE0)) (sym (and-true (eqb b1 0xED)))

invalid-three : {b1 b0 m : ℕ} (b2 : ℕ) → LeadBetween 2 0xF0 b1 → LeadBetween 2 0xF0 b0 → m ≡ max b1 (b2 - 0x20) → (xor (leb 0xC0 m) (within trail b0) || ((eqb b1 0xE0 && within (bytes 0x80 0x9F) b0) || (eqb b1 0xED && not (within (bytes 0x80 0x9F) b0)))) ≡ invalid 0 b2 b1 b0
unfolding invalid xor second
invalid-three {b1} {b0} b2 p1 p0 larger =
    rw (three-pending b2 b1 larger, between-never p0 (omega arith) (omega arith))
    (true-or-false (eqb b1 0xE0)
    (λ e. rw (eqb-true b1 0xE0 e, pending-1 0 b2 0xE0 (omega arith), above 0xA0 b0 (omega arith), below 0x9F b0 (omega arith), high-low 0x9F b0) (simp or-false (wider (within trail b0) (ltb b0 0xA0))))
    (λ e. true-or-false (eqb b1 0xED)
    (λ d. rw (eqb-true b1 0xED d, pending-1 0 b2 0xED (omega arith), below 0x9F b0 (omega arith)) (simp or-false (narrower (within trail b0) (ltb 0x9F b0))))
    (λ d. rw (e, d, ne_eqb b1 0xF0 (λ k. omega (arith, p1.low)), ne_eqb b1 0xF4 (λ k. omega (arith, p1.low))) (simp or-false))))

pub invalid-two : {b1 b0 : ℕ} → LeadBetween 2 0xE0 b1 → LeadBetween 2 0xE0 b0 → xor (leb 0xC0 b1) (within trail b0) ≡ invalid 0 0 b1 b0
invalid-two {b1} {b0} p1 p0 =
    simp (or-false, ne_eqb b1 0xE0 (λ e. omega (arith, p1.low)), ne_eqb b1 0xED (λ e. omega (arith, p1.low))) at (invalid-three {m = b1} 0 (record { far = p1.far; low = omega (arith, p1.low) }) (record { far = p0.far; low = omega (arith, p0.low) }) (omega arith))

pub invalid-plain-four : {b2 b1 b0 m : ℕ} (b3 : ℕ) → LeadBetween 0x21 0xF4 b2 → LeadBetween 0x21 0xF4 b1 → LeadBetween 0x21 0xF4 b0
    → m ≡ max (max b1 b2) (b3 - 0x30)
    → (xor (leb 0xC0 m) (within trail b0) || (eqb b1 0xED && not (within (bytes 0x80 0x9F) b0)) || (eqb b1 0xF0 && within (bytes 0x80 0x8F) b0)) ≡ invalid b3 b2 b1 b0
unfolding invalid xor second
invalid-plain-four {b2} {b1} {b0} b3 p2 p1 p0 larger =
    rw (plain-pending b3 b1 p2 (omega arith) larger, between-never p0 (omega arith) (omega arith))
    (true-or-false (eqb b1 0xED)
    (λ d. rw (eqb-true b1 0xED d, pending-1 b3 b2 0xED (omega arith), below 0x9F b0 (omega arith)) (simp or-false (narrower (within trail b0) (ltb 0x9F b0))))
    (λ d. true-or-false (eqb b1 0xF0)
    (λ f. rw (eqb-true b1 0xF0 f, pending-1 b3 b2 0xF0 (omega arith), above 0x90 b0 (omega arith), below 0x8F b0 (omega arith), high-low 0x8F b0) (simp or-false (wider (within trail b0) (ltb b0 0x90))))
    (λ f. rw (plain_second p1 (omega arith) d f, d, f) (simp or-false))))

-- a byte that leads no character as far as b0 counts as 0
pub no_third : (b3 b2 b1 b0 : ℕ) → b3 < 0xF0 → invalid 0 b2 b1 b0 ≡ invalid b3 b2 b1 b0
unfolding invalid pending
no_third b3 b2 b1 b0 h = rw (lt-leb 0xF0 b3 h)

pub no_second : (b2 b1 b0 : ℕ) → b2 < 0xE0 → invalid 0 0 b1 b0 ≡ invalid 0 b2 b1 b0
unfolding invalid pending
no_second b2 b1 b0 h = rw (lt-leb 0xE0 b2 h)

pub never-lead : (b : ℕ) → never b ≡ false → 0xC0 ≤ b → (0xC2 ≤ b) × (b < 0xF5)
unfolding never
never-lead b e h =
    le-or-lt 0xC2 b
    (λ big. le-or-lt 0xF5 b (λ top. clash (never b) (simp (le-ltb b 0xC2 big, le-leb 0xC0 b h, le-leb 0xF5 b top)) e) (λ low. (big, low)))
    (λ small. clash (never b) (simp (lt-ltb b 0xC2 small, le-leb 0xC0 b h)) e)

module _ (b3 b2 b1 b : ℕ) where
  pub invalid-never : invalid b3 b2 b1 b ≡ false → never b ≡ false
  unfolding invalid
  invalid-never e = ((or-eq-false-eq-eq-false-and-eq-false (xor (pending b3 b2 b1) (within (second b1) b)) (never b)).0 e).1

  -- where a character is pending, a byte can stand exactly when it is in the range that b1 leaves for it
  pub valid-pending : pending b3 b2 b1 ≡ true → not (invalid b3 b2 b1 b) ≡ within (second b1) b
  unfolding invalid xor
  valid-pending p =
      true-or-false (within (second b1) b)
      (λ e. rw (p, e, never-low b (continues-high b (second-continues b1 b e))))
      (λ e. rw (p, e))

-- a flag in the highest bit: what is left of `lead` from 40 on, or its complement
pub standing-far : {far : ℕ} (lead b0 : ℕ) → far ≡ lead - 0x40 → within trail b0 ≡ true → ltb far 0x80 ≡ xor (leb 0xC0 lead) (within trail b0)
unfolding xor
standing-far {far} lead b0 e t =
    rw t
    (le-or-lt 0xC0 lead
    (λ h. rw (le-leb 0xC0 lead h) (le-ltb far 0x80 (omega arith)))
    (λ h. rw (lt-leb 0xC0 lead h) (lt-ltb far 0x80 (omega arith))))

pub standing-near : {far : ℕ} (lead b0 : ℕ) → far ≡ lead - 0x40 → lead < 256 → within trail b0 ≡ false → ltb (0xFF - far) 0x80 ≡ xor (leb 0xC0 lead) (within trail b0)
unfolding xor
standing-near {far} lead b0 e small t =
    rw t
    (le-or-lt 0xC0 lead
    (λ h. rw (le-leb 0xC0 lead h) (lt-ltb (0xFF - far) 0x80 (omega arith)))
    (λ h. rw (lt-leb 0xC0 lead h) (le-ltb (0xFF - far) 0x80 (omega arith))))

-- the flag of b0 after b2 and b1, and whether E0 and ED are followed by what they do not have for their second byte
pub flag-three : {b1 b0 m t : ℕ} {f : Bool} (b3 b2 : ℕ) → b3 < 0xF0 → LeadBetween 2 0xF0 b1 → LeadBetween 2 0xF0 b0
    → m ≡ max b1 (b2 - 0x20) → f ≡ xor (leb 0xC0 m) (within trail b0) → t ≡ cond (within (bytes 0x80 0x9F) b0) 0x0D 0
    → (f || eqb (b1 + t) 0xED) ≡ invalid b3 b2 b1 b0
flag-three {b1} {b0} b3 b2 p3 p1 p0 larger is added =
    rw (is, added, three-odd b1 (within (bytes 0x80 0x9F) b0)) (invalid-three b2 p1 p0 larger) ∙ no_third b3 b2 b1 b0 p3
