-- Laws of `decimal`: it is read back; how many digits there are; digits that are being laid from the last one back.
-- And of `field`.
use Prim.Native.Nat.{ℕ, zero, suc, ◌+◌, ◌*◌, ◌-◌, ◌/◌, ◌%◌, ◌^◌, ◌≤◌, ◌<◌}
use mathlib.Core.Path.{◌≡◌, ◌∙◌, ap, refl, sym}
use mathlib.Core.List.{List, [], ◌∷◌, ◌++◌}
use native.Mathlib.Numerals.{add-one}
use native.Mathlib.Nat.{pow-suc}
use native.Mathlib.Omega.{arith}
use borrow.Author.Tests.{lt-ltb, le-ltb}
use lib.ListN.{length, set, length-append, length-set}
use Rattle.buffers.specs.Splice.{splice, Laid}
use Rattle.buffers.proofs.Splice.{store-before, store-after, splice-nil, laid-length}
use Rattle.buffers.proofs.Cases.{le-or-lt}
use Rattle.numbers.specs.Decimal.{digits, decimal, field, digits_from, read_decimal, DecimalReadBack, DecimalBounded}

-- more steps than there are digits change nothing
enough : (k m n : ℕ) → n < k → n < m → digits k n ≡ digits m n
unfolding digits
enough zero m n h l = absurd (omega arith)
enough (suc k) zero n h l = absurd (omega arith)
enough (suc k) (suc m) n h l =
    le-or-lt 10 n
    (λ big. rw (le-ltb n 10 big, enough k m (n / 10) (omega arith) (omega arith)))
    (λ small. rw (lt-ltb n 10 small))

pub decimal-low : (n : ℕ) → n < 10 → decimal n ≡ (0x30 + n % 10) ∷ []
unfolding decimal digits
decimal-low n h = rw (lt-ltb n 10 h)

pub decimal-more : (n : ℕ) → 10 ≤ n → decimal n ≡ decimal (n / 10) ++ ((0x30 + n % 10) ∷ [])
unfolding decimal digits
decimal-more n h = rw (le-ltb n 10 h, enough n (suc (n / 10)) (n / 10) (omega arith) (omega arith))

length-low : (n : ℕ) → n < 10 → length (decimal n) ≡ 1
length-low n h = ap length (decimal-low n h)

length_more : (n : ℕ) → 10 ≤ n → length (decimal n) ≡ length (decimal (n / 10)) + 1
length_more n h = ap length (decimal-more n h) ∙ length-append (decimal (n / 10)) _

-- reading
read-append : (n : ℕ) (ds es : List ℕ) → digits_from n (ds ++ es) ≡ digits_from (digits_from n ds) es
unfolding digits_from
read-append n [] es = refl
read-append n (d ∷ ds) es = read-append (n * 10 + (d - 0x30)) ds es

read-digits : (k n : ℕ) → n < k → digits_from 0 (digits k n) ≡ n
unfolding digits digits_from
read-digits zero n h = absurd (omega arith)
read-digits (suc k) n h =
    le-or-lt 10 n
    (λ big.
    rw (le-ltb n 10 big, read-append 0 (digits k (n / 10)) ((0x30 + n % 10) ∷ []), read-digits k (n / 10) (omega arith)) (omega arith))
    (λ small. rw (lt-ltb n 10 small) (omega arith))

pub decimal-read-back : DecimalReadBack
unfolding read_decimal decimal
decimal-read-back n = read-digits (suc n) n (omega arith)

pub decimal-bounded : DecimalBounded
decimal-bounded zero n h few = absurd (omega arith)
decimal-bounded (suc zero) n h few = omega (arith, length-low n few)
decimal-bounded (suc (suc k)) n h few =
    let fits : n < 10 ^ suc k * 10 = rw pow-suc at few in
    le-or-lt 10 n
    (λ big. omega (arith, length_more n big, decimal-bounded (suc k) (n / 10) (omega arith) (omega arith)))
    (λ small. omega (arith, length-low n small))

-- digits that are being counted, the last one taken away each time
pub record CountedDigits (n after count : ℕ) : Type 0 where
  pub rest : count + length (decimal after) ≡ length (decimal n) + 1
  pub most : count + after ≤ n + 1

pub one-counted : {n after count : ℕ} → CountedDigits n after count → 10 ≤ after → CountedDigits n (after / 10) (count + 1)
one-counted {after = after} c big =
    record { rest = omega (arith, c.rest, length_more after big); most = omega (arith, c.most) }

pub all-counted : {n after count : ℕ} → CountedDigits n after count → after < 10 → count ≡ length (decimal n)
all-counted {after = after} c small = omega (arith, c.rest, length-low after small)

-- the last k digits, leading zeros too
unfoldable pub last_digits : ℕ → ℕ → List ℕ
last_digits zero n = []
last_digits (suc k) n = last_digits k (n / 10) ++ ((0x30 + n % 10) ∷ [])

length_last : (k n : ℕ) → length (last_digits k n) ≡ k
unfolding last_digits
length_last zero n = refl
length_last (suc k) n = length-append (last_digits k (n / 10)) _ ∙ rw (length_last k (n / 10)) (add-one k)

digits_last : (k n : ℕ) → digits k n ≡ last_digits (length (digits k n)) n
unfolding digits last_digits
digits_last zero n = refl
digits_last (suc k) n =
    le-or-lt 10 n
    (λ big. rw (le-ltb n 10 big, length-append, add-one) (ap (λ (l : List ℕ). l ++ ((0x30 + n % 10) ∷ [])) (digits_last k (n / 10))))
    (λ small. rw (lt-ltb n 10 small))

decimal-last : (n : ℕ) → decimal n ≡ last_digits (length (decimal n)) n
unfolding decimal
decimal-last n = digits_last (suc n) n

-- digits that are being laid from the last one back: none yet, one more, all of them
pub record Shrinking (n : ℕ) (d₀ : List ℕ) (at : ℕ) (d : List ℕ) (after i : ℕ) : Type 0 where
  pub rest : splice d at (last_digits i after) ≡ splice d₀ at (decimal n)
  pub room : at + i ≤ length d
  pub same : length d ≡ length d₀

pub no_digit : {n : ℕ} {d : List ℕ} {at count : ℕ} → count ≡ length (decimal n) → at + length (decimal n) ≤ length d → Shrinking n d at d n count
no_digit {n = n} {d = d} {at = at} is room =
    record { rest = ap (splice d at) (rw is (sym (decimal-last n))); room = omega arith; same = refl }

pub digit-laid : {n : ℕ} {d₀ : List ℕ} {at : ℕ} {d : List ℕ} {after i : ℕ} → Shrinking n d₀ at d after i → 0 < i → Shrinking n d₀ at (set d (at + (i - 1)) (0x30 + after % 10)) (after / 10) (i - 1)
unfolding last_digits
digit-laid {i = zero} s h = absurd (omega arith)
digit-laid {at = at} {d = d} {after = after} {i = suc k} s h =
    let less : suc k - 1 ≡ k = omega arith in
    let long : length (last_digits k (after / 10)) ≡ k = length_last k (after / 10) in
    rw less
    (record {
      rest = (rw long at (store-before d (last_digits k (after / 10)) at (0x30 + after % 10) (omega (arith, s.room)))) ∙ s.rest;
      room = simp length-set (omega (arith, s.room));
      same = simp length-set s.same;
    })

pub digits-laid : {n : ℕ} {d₀ : List ℕ} {at count : ℕ} {d : List ℕ} {after i : ℕ} → Shrinking n d₀ at d after i → i ≤ 0 → count ≡ length (decimal n) → Laid (decimal n) d₀ at (at + count) d
unfolding last_digits
digits-laid {at = at} {d = d} {i = i} s none is =
    let done : i ≡ 0 = omega arith in
    record { reach = ap (◌+◌ at) is; holds = sym (splice-nil d at) ∙ (rw done at s.rest) }

-- a field: its length, and room for its number and its byte
pub length-field : (n after : ℕ) → length (field n after) ≡ length (decimal n) + 1
unfolding field
length-field n after = length-append (decimal n) (after ∷ [])

-- the fields of five digits
pub field-bounded-5 : (n after : ℕ) → n < 100000 → length (field n after) ≤ 5 + 1
field-bounded-5 n after few = omega (arith, length-field n after, decimal-bounded 5 n (omega arith) few)

module _ (n after : ℕ) {d d₁ : List ℕ} {at r : ℕ} (room : at + length (field n after) ≤ length d) (l : Laid (decimal n) d at r d₁) where
  pub number-within : (r < length d₁) × (r < length d)
  number-within =
      let same = laid-length l (omega (arith, length-field n after)) in
      (omega (arith, l.reach, length-field n after), omega (arith, l.reach, length-field n after))

  pub field-laid : Laid (field n after) d at (r + 1) (set d₁ r after)
  unfolding field
  field-laid =
      record {
        reach = omega (arith, l.reach, length-append (decimal n) (after ∷ []));
        holds = rw (l.holds, l.reach) (store-after d (decimal n) at after (omega (arith, length-field n after)));
      }
