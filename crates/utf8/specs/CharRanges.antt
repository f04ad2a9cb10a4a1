-- Where the character of a byte begins and ends (RULES 3).
use Rattle.std.specs.Prelude.{ℕ, zero, suc, ◌+◌, cond, List, get_or}
use Rattle.utf8.specs.Formed.{continues, announced}

-- where the character of the byte at i begins: at i, or before it where the byte continues a character
unfoldable pub char_start : List ℕ → ℕ → ℕ
char_start s zero = 0
char_start s (suc i) = cond (continues (get_or s (suc i) 0)) (char_start s i) (suc i)

-- and where it ends: as many bytes on as its lead byte announces
unfoldable pub char_end : List ℕ → ℕ → ℕ
char_end s i = char_start s i + announced (get_or s (char_start s i) 0)
