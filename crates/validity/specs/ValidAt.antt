-- The working form of well-formedness: each byte of a text, and its end, is judged with the three bytes before it.
use Rattle.std.specs.Prelude.{ℕ, ◌+◌, ◌≡◌, Bool, List, ◌∷◌, length, get_or, drop}
use Rattle.buffers.specs.Every.{every_below}
use Rattle.utf8.specs.Formed.{well_formed}
use Rattle.validity_blocks.specs.Valid.{valid}

-- the text after three bytes 0; past its end are bytes 0 too
unfoldable pub padded_at : List ℕ → ℕ → ℕ
padded_at s k = get_or (0 ∷ 0 ∷ 0 ∷ s) k 0

-- the byte at i of the text, or what is past its end, can stand after the three bytes before it
unfoldable pub valid_at : List ℕ → ℕ → Bool
valid_at s i = valid (drop i (0 ∷ 0 ∷ 0 ∷ s))

-- so can the n bytes from i on
unfoldable pub valid_from : List ℕ → ℕ → ℕ → Bool
valid_from s i n = every_below n (λ j. valid_at s (i + j))

-- CLAIM: a text is well-formed exactly when each of its bytes, and its end, can stand after the three bytes before it
-- (the end is judged by three bytes 0: they cannot stand where a character is pending)
abbrev pub FormedValid : Type 0
FormedValid = (s : List ℕ) → well_formed s ≡ every_below (length s + 3) (valid_at s)
