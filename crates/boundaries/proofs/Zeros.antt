-- Laws of bits and differences, many of which are told at once to be 0.
use Prim.Native.Nat.{ℕ, ◌-◌}
use mathlib.Core.Path.{◌≡◌, refl, sym}
use mathlib.Core.Bool.{Bool, true, false, cond, ◌&&◌, ◌||◌, not}
use borrow.Author.Tests.{le-leb, lt-leb, eq-eqb, ne_eqb}
use native.Mathlib.Omega.{arith}
use lib.Dec.{leb, eqb}
use lib.Bits.{bit_or, bit_xor, or_add_and, xor_add_and, and_le_l, and_le_r, or_zero_l, xor_self}
use Rattle.buffers.proofs.Cases.{le-or-lt}

pub or-none : (a b : ℕ) → eqb (bit_or a b) 0 ≡ (eqb a 0 && eqb b 0)
or-none a b =
    le-or-lt 1 a
    (λ some. rw (ne_eqb (bit_or a b) 0 (λ e. absurd (omega (arith, e, or_add_and a b, and_le_r a b))), ne_eqb a 0 (λ e. absurd (omega (arith, e)))))
    (λ none. let z : a ≡ 0 = omega arith in rw (z, or_zero_l b))

pub xor-none : (a b : ℕ) → eqb (bit_xor a b) 0 ≡ eqb a b
xor-none a b =
    le-or-lt a b
    (λ low. le-or-lt b a
    (λ high. let same : a ≡ b = omega arith in rw (same, xor_self b) (sym (eq-eqb b b refl)))
    (λ less. rw (ne_eqb a b (λ e. absurd (omega (arith, e)))) (ne_eqb (bit_xor a b) 0 (λ e. absurd (omega (arith, e, xor_add_and a b, and_le_l a b))))))
    (λ more. rw (ne_eqb a b (λ e. absurd (omega (arith, e)))) (ne_eqb (bit_xor a b) 0 (λ e. absurd (omega (arith, e, xor_add_and a b, and_le_r a b)))))

pub less_none : (a b : ℕ) → eqb (a - b) 0 ≡ leb a b
less_none a b =
    le-or-lt a b
    (λ le. rw (le-leb a b le, eq-eqb (a - b) 0 (omega arith)))
    (λ lt. rw (lt-leb a b lt, ne_eqb (a - b) 0 (λ e. absurd (omega (arith, e)))))

pub when-none : (c : Bool) (x : ℕ) → eqb (cond c x 0) 0 ≡ (not c || eqb x 0)
when-none true x = refl
when-none false x = refl
