-- When a note is the one of a fresh text: its two texts are the same, and each alignment fits the one before it and the
-- byte.
use Rattle.std.specs.Prelude.{ℕ, zero, suc, ◌+◌, ◌-◌, Bool, cond, ◌&&◌, List, eqb, length, get_or}
use Rattle.buffers.specs.Every.{every_below}
use Rattle.utf8.specs.Formed.{continues}
use Rattle.validity.specs.Texts.{ascii}

-- at the byte b at i, the start s1 after s0 and the end e0 before e1: carried where b continues a character, else a
-- character begins at i
unfoldable pub carries_own : ℕ → ℕ → ℕ → ℕ → ℕ → ℕ → Bool
carries_own b s0 s1 e0 e1 i = eqb s1 (cond (continues b) s0 i) && eqb e0 (cond (continues b) e1 i)

unfoldable pub char_aligned_at : List ℕ → List ℕ → List ℕ → ℕ → Bool
char_aligned_at text starts ends zero = eqb (get_or starts 0 0) 0 && eqb (get_or ends (length text - 1) 0) (length text)
char_aligned_at text starts ends (suc i) =
    carries_own (get_or text (suc i) 0) (get_or starts i 0) (get_or starts (suc i) 0) (get_or ends i 0) (get_or ends (suc i) 0)
    (suc i)

unfoldable pub is_char_aligned : List ℕ → List ℕ → List ℕ → ℕ → Bool
is_char_aligned text starts ends n = every_below n (char_aligned_at text starts ends)

-- of a text in which each byte is a character: each alignment is the byte at its index
unfoldable pub is_identity : List ℕ → List ℕ → ℕ → Bool
is_identity starts ends n = every_below n (λ i. eqb (get_or starts i 0) i && eqb (get_or ends i 0) (i + 1))

unfoldable pub is_starting : List ℕ → List ℕ → List ℕ → Bool
is_starting text starts ends =
    cond (ascii text) (is_identity starts ends (length starts)) (is_char_aligned text starts ends (length text))
