-- A number in decimal ASCII digits, the most significant first and without leading zeros (Rust: `to_string`, `parse`).
use Rattle.std.specs.Prelude.{ℕ, zero, suc, ◌+◌, ◌-◌, ◌*◌, ◌/◌, ◌%◌, ◌^◌, ◌≤◌, ◌<◌, ◌≡◌, cond, List, [], ◌∷◌, ◌++◌, ltb, length}

-- the last digits of a number, k at most, without leading zeros: those of its tenth, then the last one
unfoldable pub digits : ℕ → ℕ → List ℕ
digits zero n = []
digits (suc k) n = cond (ltb n 10) [] (digits k (n / 10)) ++ ((0x30 + n % 10) ∷ [])

-- a number in decimal: it has no more than n + 1 digits
unfoldable pub decimal : ℕ → List ℕ
decimal n = digits (suc n) n

-- a number and the byte after it
unfoldable pub field : ℕ → ℕ → List ℕ
field n after = decimal n ++ (after ∷ [])

-- the number that digits stand for after those of n
unfoldable pub digits_from : ℕ → List ℕ → ℕ
digits_from n [] = n
digits_from n (d ∷ ds) = digits_from (n * 10 + (d - 0x30)) ds

-- the number that digits stand for
unfoldable pub read_decimal : List ℕ → ℕ
read_decimal ds = digits_from 0 ds

-- CLAIM: every number is read back
abbrev pub DecimalReadBack : Type 0
DecimalReadBack = (n : ℕ) → read_decimal (decimal n) ≡ n

-- CLAIM: a number below the k-th power of ten has at most k digits
abbrev pub DecimalBounded : Type 0
DecimalBounded = (k n : ℕ) → 0 < k → n < 10 ^ k → length (decimal n) ≤ k
