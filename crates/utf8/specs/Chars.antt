-- How many characters a text has (RULES 3; Rust: `chars().count()`).
use Rattle.std.specs.Prelude.{ℕ, zero, suc, ◌+◌, ◌-◌, ◌≡◌, true, cond, List, [], ◌∷◌}
use Rattle.utf8.specs.Formed.{announced, continues, well_formed}

-- the characters from a place on that is k bytes before the next one: each lead byte begins one, and what it announces
-- is passed over
unfoldable pub chars_from : ℕ → List ℕ → ℕ
chars_from k [] = 0
chars_from zero (b ∷ s) = suc (chars_from (announced b - 1) s)
chars_from (suc k) (b ∷ s) = chars_from k s

unfoldable pub chars : List ℕ → ℕ
chars s = chars_from 0 s

-- 1 for a byte that begins a character, 0 for one that continues it
unfoldable pub lead_at : ℕ → ℕ
lead_at b = cond (continues b) 0 1

-- the working form of `chars`: the bytes that begin a character
unfoldable pub leads : List ℕ → ℕ
leads [] = 0
leads (b ∷ s) = lead_at b + leads s

-- CLAIM: a well-formed text has as many characters as bytes that do not continue a character
abbrev pub CharsLeads : Type 0
CharsLeads = (s : List ℕ) → well_formed s ≡ true → chars s ≡ leads s
