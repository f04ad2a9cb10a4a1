-- The working form of Table 3-7: how many bytes a lead byte announces, and between which two numbers the second one is.
use Rattle.std.specs.Prelude.{ℕ, ◌≤◌, ◌≡◌, Bool, true, false, cond, ◌&&◌, not, List, [], ◌∷◌, leb, ltb, eqb, length, get_or, take, drop}
use Rattle.utf8.specs.Table.{Bytes, bytes, within, trail, WellFormed}

-- RULES 3: how many bytes a lead byte announces; 0 of a byte that begins no character (80..C1, F5..FF)
unfoldable pub announced : ℕ → ℕ
announced b =
    cond (ltb b 0x80) 1 (cond (ltb b 0xC2) 0 (cond (ltb b 0xE0) 2 (cond (ltb b 0xF0) 3 (cond (ltb b 0xF5) 4 0))))

-- the second byte's range, by the lead byte
abbrev pub second_low : ℕ → ℕ
second_low b = cond (eqb b 0xE0) 0xA0 (cond (eqb b 0xF0) 0x90 0x80)

abbrev pub second_high : ℕ → ℕ
second_high b = cond (eqb b 0xED) 0x9F (cond (eqb b 0xF4) 0x8F 0xBF)

unfoldable pub second : ℕ → Bytes
second b = bytes (second_low b) (second_high b)

-- what has to follow a lead byte
unfoldable pub asked : ℕ → List Bytes
asked b =
    cond (eqb (announced b) 2) (second b ∷ [])
    (cond (eqb (announced b) 3) (second b ∷ trail ∷ [])
    (cond (eqb (announced b) 4) (second b ∷ trail ∷ trail ∷ []) []))

-- the text is well-formed from a place on at which the columns r are still asked
unfoldable pub formed : List Bytes → List ℕ → Bool
formed [] [] = true
formed (r ∷ rs) [] = false
formed [] (b ∷ s) = ltb 0 (announced b) && formed (asked b) s
formed (r ∷ rs) (b ∷ s) = within r b && formed rs s

abbrev pub well_formed : List ℕ → Bool
well_formed s = formed [] s

-- CLAIM: a text is a run of sequences, each of one row of Table 3-7, where the working form, which the code follows,
-- says that it is well-formed, and nowhere else
abbrev pub TableAgrees : Type 0
TableAgrees = (s : List ℕ) → (WellFormed s → well_formed s ≡ true) × (well_formed s ≡ true → WellFormed s)

-- RULES 3: a byte that continues a character
unfoldable pub continues : ℕ → Bool
continues b = within trail b

-- RULES 3: a place at which a character begins or the text ends (a byte past the text is 0, which continues none)
unfoldable pub boundary : List ℕ → ℕ → Bool
boundary s i = leb i (length s) && not (continues (get_or s i 0))

-- RULES 3: a range of a text from a boundary to a boundary (Rust: `str::get` has a part there)
unfoldable pub char_range : List ℕ → ℕ → ℕ → Bool
char_range s a e = leb a e && boundary s a && boundary s e

-- CLAIM: cut at a boundary, a well-formed text is two of them; and where what is before a place is well-formed,
-- the place is a boundary
abbrev pub BoundaryCuts : Type 0
BoundaryCuts =
    (s : List ℕ) (i : ℕ) → well_formed s ≡ true → i ≤ length s
    → (boundary s i ≡ true → (well_formed (take i s) ≡ true) × (well_formed (drop i s) ≡ true))
    × (well_formed (take i s) ≡ true → boundary s i ≡ true)
