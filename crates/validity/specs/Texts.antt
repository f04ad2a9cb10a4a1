-- What is told of a whole text by its bytes: whether it is ASCII.
use Rattle.std.specs.Prelude.{ℕ, ◌≡◌, Bool, true, List, ltb, length, get_or}
use Rattle.buffers.specs.Every.{every_below}
use Rattle.utf8.specs.Formed.{well_formed}

-- RULES 3: every byte is below 80
unfoldable pub ascii : List ℕ → Bool
ascii s = every_below (length s) (λ i. ltb (get_or s i 0) 0x80)

-- CLAIM: a text of bytes below 80 is well-formed
abbrev pub AsciiFormed : Type 0
AsciiFormed = (s : List ℕ) → ascii s ≡ true → well_formed s ≡ true
