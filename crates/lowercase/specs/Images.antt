-- RULES 8.8: what lowercase puts in a character's place (Rust: `char::to_lowercase`, for code points up to U+017F).
use Rattle.std.specs.Prelude.{ℕ, zero, suc, ◌+◌, ◌<◌, ◌≡◌, true, cond, List, [], ◌∷◌, ◌++◌, ltb, eqb, get_or}
use Rattle.utf8.specs.Scalar.{scalar, len_utf8}

-- so many numbers from c on
unfoldable pub run : ℕ → ℕ → List ℕ
run c zero = []
run c (suc k) = c ∷ run (suc c) k

-- so many times a capital and its small letter, one after the other from c on: both have the small one
unfoldable pub twins : ℕ → ℕ → List ℕ
twins c zero = []
twins c (suc k) = suc c ∷ suc c ∷ twins (suc (suc c)) k

-- for each number below 384 the simple lowercase mapping of UnicodeData.txt (field 13), or the number itself where that
-- field is empty
unfoldable pub lowercase_table : List ℕ
lowercase_table =
    run 0x000 0x41  -- U+0000..U+0040
    ++ (run 0x061 0x1A  -- U+0041..U+005A
    ++ (run 0x05B 0x65  -- U+005B..U+00BF
    ++ (run 0x0E0 0x17  -- U+00C0..U+00D6
    ++ (run 0x0D7 0x01  -- U+00D7
    ++ (run 0x0F8 0x07  -- U+00D8..U+00DE
    ++ (run 0x0DF 0x21  -- U+00DF..U+00FF
    ++ (twins 0x100 0x18  -- U+0100..U+012F
    ++ (run 0x069 0x01  -- U+0130
    ++ (run 0x131 0x01  -- U+0131
    ++ (twins 0x132 0x03  -- U+0132..U+0137
    ++ (run 0x138 0x01  -- U+0138
    ++ (twins 0x139 0x08  -- U+0139..U+0148
    ++ (run 0x149 0x01  -- U+0149
    ++ (twins 0x14A 0x17  -- U+014A..U+0177
    ++ (run 0x0FF 0x01  -- U+0178
    ++ (twins 0x179 0x03  -- U+0179..U+017E
    ++ run 0x17F 0x01))))))))))))))))  -- U+017F

-- the image of a code point: the table's below 384; from there on a code point stays
unfoldable pub lower_image : ℕ → ℕ
lower_image c = cond (ltb c 384) (get_or lowercase_table c 0) c

-- the capital I with a dot above, which alone becomes two characters, and the dot that is added
abbrev pub dotted_i : ℕ
dotted_i = 0x130

abbrev pub dot : ℕ
dot = 0x307

-- all code points in a character's place
unfoldable pub images : ℕ → List ℕ
images c = lower_image c ∷ cond (eqb c dotted_i) (dot ∷ []) []

-- what holds of a code point's image: it is in the table, is a scalar value, is its own image, and has as many bytes as
-- the code point, but of U+0130 one byte for two
pub record Image (c : ℕ) : Type 0 where
  pub below : lower_image c < 384
  pub is_scalar : scalar (lower_image c) ≡ true
  pub stays : lower_image (lower_image c) ≡ lower_image c
  pub wide : len_utf8 (lower_image c) + cond (eqb c dotted_i) 1 0 ≡ len_utf8 c

-- CLAIM: so it is of every code point below 384.
abbrev pub LowerTable : Type 0
LowerTable = (c : ℕ) → c < 384 → Image c
