-- The fast form of `monotone`: differences that are all 0 where each alignment can follow the one before it.
use Rattle.std.specs.Prelude.{ℕ, zero, suc, ◌-◌, Bool, cond, List, eqb, get_or}
use Rattle.std.specs.Int.Bits.{bit_or}
use Rattle.buffers.specs.Every.{every_below}
use Rattle.utf8.specs.Formed.{continues}

-- the bits that are set where (s1, e1) at the byte b cannot follow (s0, e0)
unfoldable pub misaligned_bits : ℕ → ℕ → ℕ → ℕ → ℕ → ℕ
misaligned_bits b s0 e0 s1 e1 =
    bit_or (bit_or (bit_or (s1 - e1) (s0 - s1)) (e0 - e1)) (cond (continues b) (bit_or (s1 - s0) (e1 - e0)) 0)

unfoldable pub misaligned_at : List ℕ → List ℕ → List ℕ → ℕ → ℕ
misaligned_at text starts ends zero = get_or starts 0 0 - get_or ends 0 0
misaligned_at text starts ends (suc i) =
    misaligned_bits (get_or text (suc i) 0) (get_or starts i 0) (get_or ends i 0) (get_or starts (suc i) 0) (get_or ends (suc i) 0)

-- no bit is set at the first n bytes
unfoldable pub none_misaligned : List ℕ → List ℕ → List ℕ → ℕ → Bool
none_misaligned text starts ends n = every_below n (λ i. eqb (misaligned_at text starts ends i) 0)
