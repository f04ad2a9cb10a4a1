-- RULES 14.10: the characters of a text as code points, and where the first one is that is invisible.
use Rattle.std.specs.Prelude.{ℕ, zero, suc, ◌+◌, ◌-◌, ◌*◌, ◌%◌, ◌≡◌, true, cond, List, [], ◌∷◌, ◌++◌, ltb, length, get_or}
use Rattle.utf8.specs.Lengths.{lead_len}
use Rattle.utf8.specs.Scalar.{scalar, bytes_of, len_utf8}
use Rattle.invisible.specs.Ranges.{is_invisible}

-- the code point whose bytes are the first of four (the Unicode Standard, Table 3-6): some bits of the lead byte, and
-- six bits of each byte after it
unfoldable pub code_of : ℕ → ℕ → ℕ → ℕ → ℕ
code_of a b c d =
    cond (ltb a 0xC0) a
    (cond (ltb a 0xE0) (a % 32 * 64 + b % 64)
    (cond (ltb a 0xF0) (a % 16 * 4096 + b % 64 * 64 + c % 64)
    (a % 8 * 262144 + b % 64 * 4096 + c % 64 * 64 + d % 64)))

-- the code point of the character that begins at i; a byte after the text is 0
unfoldable pub code_at : List ℕ → ℕ → ℕ
code_at s i = code_of (get_or s i 0) (get_or s (i + 1) 0) (get_or s (i + 2) 0) (get_or s (i + 3) 0)

-- CLAIM: where the bytes of a scalar value are, its code point is read.
abbrev pub CodeOfBytes : Type 0
CodeOfBytes = (c : ℕ) (before after : List ℕ) → scalar c ≡ true
    → code_at (before ++ bytes_of c ++ after) (length before) ≡ c

-- how many bytes are before the first invisible character, from a place on that is k bytes before the next character:
-- each byte that begins a character says how many bytes it has (RULES 3); all bytes where no character is invisible
unfoldable pub visible_bytes : ℕ → List ℕ → ℕ
visible_bytes k [] = 0
visible_bytes zero (b ∷ s) = cond (is_invisible (code_at (b ∷ s) 0)) 0 (suc (visible_bytes (lead_len b - 1) s))
visible_bytes (suc k) (b ∷ s) = suc (visible_bytes k s)

-- the position of a text's first invisible character, or the text's length
unfoldable pub first_invisible : List ℕ → ℕ
first_invisible s = visible_bytes 0 s

-- CLAIM: in a text that begins with the bytes of a scalar value, it is at the front where that character is invisible,
-- and is looked for after its bytes where not.
abbrev pub CharacterPassed : Type 0
CharacterPassed = (c : ℕ) (after : List ℕ) → scalar c ≡ true
    → first_invisible (bytes_of c ++ after) ≡ cond (is_invisible c) 0 (len_utf8 c + first_invisible after)
