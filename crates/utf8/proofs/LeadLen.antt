-- Laws of `leadLen`: by ranges, by a byte's first four bits, by a sum, and beside what a byte announces.
use Prim.Native.Nat.{ℕ, ◌+◌, ◌-◌, ◌/◌, ◌≤◌, ◌<◌, min, max}
use mathlib.Core.Path.{◌≡◌}
use mathlib.Core.Bool.{false}
use native.Mathlib.Omega.{arith}
use mir.Val.{bool_byte}
use lib.Dec.{leb}
use borrow.Author.Tests.{le-leb, lt-leb, lt-ltb, le-ltb}
use Rattle.buffers.proofs.Cases.{le-or-lt}
use Rattle.utf8.specs.Formed.{announced}
use Rattle.utf8.specs.Lengths.{lead_len, LeadLenRight}

-- by a byte's first four bits, counted from C on
pub width-lead : (b : ℕ) {lead one r : ℕ} → b < 256 → lead ≡ b / 16 - 11 → one ≡ min lead 1 → r ≡ max lead (one + 1) → r ≡ lead_len b
unfolding lead_len
width-lead b small far one more =
    le-or-lt 0xC0 b
    (λ c. le-or-lt 0xE0 b
    (λ e. le-or-lt 0xF0 b
    (λ f. simp (le-ltb b 0xC0 c, le-ltb b 0xE0 e, le-ltb b 0xF0 f) (omega arith))
    (λ f. simp (le-ltb b 0xC0 c, le-ltb b 0xE0 e, lt-ltb b 0xF0 f) (omega arith)))
    (λ e. simp (le-ltb b 0xC0 c, lt-ltb b 0xE0 e) (omega arith)))
    (λ c. simp (lt-ltb b 0xC0 c) (omega arith))

-- by a sum: one byte, and one more from each bound on
pub lead-len-sum : (b : ℕ) → 1 + bool_byte (leb 0xC0 b) + bool_byte (leb 0xE0 b) + bool_byte (leb 0xF0 b) ≡ lead_len b
unfolding lead_len
lead-len-sum b =
    le-or-lt 0xC0 b
    (λ c. le-or-lt 0xE0 b
    (λ e. le-or-lt 0xF0 b
    (λ f. rw (le-leb _ _ c, le-leb _ _ e, le-leb _ _ f, le-ltb b 0xC0 c, le-ltb b 0xE0 e, le-ltb b 0xF0 f))
    (λ f. rw (le-leb _ _ c, le-leb _ _ e, lt-leb _ _ f, le-ltb b 0xC0 c, le-ltb b 0xE0 e, lt-ltb b 0xF0 f)))
    (λ e. let f : leb 0xF0 b ≡ false = lt-leb 0xF0 b (omega arith) in rw (le-leb _ _ c, lt-leb _ _ e, f, le-ltb b 0xC0 c, lt-ltb b 0xE0 e)))
    (λ c.
    let e : leb 0xE0 b ≡ false = lt-leb 0xE0 b (omega arith) in
    let f : leb 0xF0 b ≡ false = lt-leb 0xF0 b (omega arith) in
    rw (lt-leb _ _ c, e, f, lt-ltb b 0xC0 c))

-- a byte that leads a character in a well-formed text
pub lead-len-right : LeadLenRight
unfolding lead_len announced
lead-len-right b some =
    le-or-lt 0x80 b
    (λ h. le-or-lt 0xC2 b
    (λ c. le-or-lt 0xE0 b
    (λ e. le-or-lt 0xF0 b
    (λ g. le-or-lt 0xF5 b
    (λ k. absurd (omega (arith, simp (le-ltb b 0x80 h, le-ltb b 0xC2 c, le-ltb b 0xE0 e, le-ltb b 0xF0 g, le-ltb b 0xF5 k) at some)))
    (λ k. simp (le-ltb b 0x80 h, le-ltb b 0xC0 (omega arith), le-ltb b 0xC2 c, le-ltb b 0xE0 e, le-ltb b 0xF0 g, lt-ltb b 0xF5 k)))
    (λ g. simp (le-ltb b 0x80 h, le-ltb b 0xC0 (omega arith), le-ltb b 0xC2 c, le-ltb b 0xE0 e, lt-ltb b 0xF0 g)))
    (λ e. simp (le-ltb b 0x80 h, le-ltb b 0xC0 (omega arith), le-ltb b 0xC2 c, lt-ltb b 0xE0 e)))
    (λ c. absurd (omega (arith, simp (le-ltb b 0x80 h, lt-ltb b 0xC2 c) at some))))
    (λ h. simp (lt-ltb b 0x80 h, lt-ltb b 0xC0 (omega arith)))

-- by ranges
pub lead-len-one : (b : ℕ) → b < 0xC0 → 1 ≡ lead_len b
unfolding lead_len
lead-len-one b h = simp (lt-ltb b 0xC0 h)

pub lead-len-two : (b : ℕ) → 0xC0 ≤ b → b < 0xE0 → 2 ≡ lead_len b
unfolding lead_len
lead-len-two b l h = simp (le-ltb b 0xC0 l, lt-ltb b 0xE0 h)

pub lead-len-three : (b : ℕ) → 0xE0 ≤ b → b < 0xF0 → 3 ≡ lead_len b
unfolding lead_len
lead-len-three b l h = simp (le-ltb b 0xC0 (omega arith), le-ltb b 0xE0 l, lt-ltb b 0xF0 h)

pub lead-len-four : (b : ℕ) → 0xF0 ≤ b → 4 ≡ lead_len b
unfolding lead_len
lead-len-four b l = simp (le-ltb b 0xC0 (omega arith), le-ltb b 0xE0 (omega arith), le-ltb b 0xF0 l)
