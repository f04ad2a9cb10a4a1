-- The characters of a text as code points (Rust: `str::chars`).
use Rattle.std.specs.Prelude.{ℕ, zero, suc, ◌+◌, ◌-◌, ◌*◌, ◌<◌, ◌≡◌, true, cond, List, [], ◌∷◌, eqb, length, get_or}
use Rattle.buffers.specs.Splice.{part}
use Rattle.utf8.specs.Formed.{announced, well_formed, boundary}
use Rattle.utf8.specs.Scalar.{bytes_of}
use Rattle.code_point_blocks.specs.Codes.{text_of}

-- the code point whose bytes stand at p (the Unicode Standard, Table 3-6)
unfoldable pub code_at : List ℕ → ℕ → ℕ
code_at s p =
    cond (eqb (announced (get_or s p 0)) 1) (get_or s p 0)
    (cond (eqb (announced (get_or s p 0)) 2) ((get_or s p 0 - 0xC0) * 64 + (get_or s (p + 1) 0 - 0x80))
    (cond (eqb (announced (get_or s p 0)) 3)
    ((get_or s p 0 - 0xE0) * 4096 + (get_or s (p + 1) 0 - 0x80) * 64 + (get_or s (p + 2) 0 - 0x80))
    ((get_or s p 0 - 0xF0) * 262144 + (get_or s (p + 1) 0 - 0x80) * 4096 + (get_or s (p + 2) 0 - 0x80) * 64
    + (get_or s (p + 3) 0 - 0x80))))

-- the code points of a text, from a character on that is k bytes away
unfoldable pub codes_from : ℕ → List ℕ → List ℕ
codes_from k [] = []
codes_from zero (b ∷ s) = code_at (b ∷ s) 0 ∷ codes_from (announced b - 1) s
codes_from (suc k) (b ∷ s) = codes_from k s

unfoldable pub codes_of : List ℕ → List ℕ
codes_of s = codes_from 0 s

-- CLAIM: the bytes of a character's code point are that character's bytes.
abbrev pub CodeBytes : Type 0
CodeBytes = (s : List ℕ) (p : ℕ) → well_formed s ≡ true → boundary s p ≡ true → p < length s
    → bytes_of (code_at s p) ≡ part s p (p + announced (get_or s p 0))

-- CLAIM: the code points of a text have that text for their bytes.
abbrev pub CodesText : Type 0
CodesText = (s : List ℕ) → well_formed s ≡ true → text_of (codes_of s) ≡ s
