-- RULES 14.10: which code points are invisible characters, by the ranges that the Unicode Standard prints.
use Rattle.std.specs.Prelude.{ℕ, Bool, false, ◌&&◌, ◌||◌, List, [], ◌∷◌, ◌++◌, leb}

-- the code points from the first number to the second, both included
pub data Codes : Type 0 where
  codes : ℕ → ℕ → Codes

-- control characters: the general category Cc
unfoldable pub controls : List Codes
controls =
    codes 0x0000 0x001F  -- U+0000..U+001F
    ∷ codes 0x007F 0x009F  -- U+007F..U+009F
    ∷ []

-- the property White_Space, without U+0020
unfoldable pub spaces : List Codes
spaces =
    codes 0x0009 0x000D  -- U+0009..U+000D
    ∷ codes 0x0085 0x0085  -- U+0085
    ∷ codes 0x00A0 0x00A0  -- U+00A0
    ∷ codes 0x1680 0x1680  -- U+1680
    ∷ codes 0x2000 0x200A  -- U+2000..U+200A
    ∷ codes 0x2028 0x2028  -- U+2028
    ∷ codes 0x2029 0x2029  -- U+2029
    ∷ codes 0x202F 0x202F  -- U+202F
    ∷ codes 0x205F 0x205F  -- U+205F
    ∷ codes 0x3000 0x3000  -- U+3000
    ∷ []

-- the property Default_Ignorable_Code_Point
unfoldable pub ignorables : List Codes
ignorables =
    codes 0x00AD 0x00AD  -- U+00AD
    ∷ codes 0x034F 0x034F  -- U+034F
    ∷ codes 0x061C 0x061C  -- U+061C
    ∷ codes 0x115F 0x1160  -- U+115F..U+1160
    ∷ codes 0x17B4 0x17B5  -- U+17B4..U+17B5
    ∷ codes 0x180B 0x180F  -- U+180B..U+180F
    ∷ codes 0x200B 0x200F  -- U+200B..U+200F
    ∷ codes 0x202A 0x202E  -- U+202A..U+202E
    ∷ codes 0x2060 0x206F  -- U+2060..U+206F
    ∷ codes 0x3164 0x3164  -- U+3164
    ∷ codes 0xFE00 0xFE0F  -- U+FE00..U+FE0F
    ∷ codes 0xFEFF 0xFEFF  -- U+FEFF
    ∷ codes 0xFFA0 0xFFA0  -- U+FFA0
    ∷ codes 0xFFF0 0xFFF8  -- U+FFF0..U+FFF8
    ∷ codes 0x1BCA0 0x1BCA3  -- U+1BCA0..U+1BCA3
    ∷ codes 0x1D173 0x1D17A  -- U+1D173..U+1D17A
    ∷ codes 0xE0000 0xE0FFF  -- U+E0000..U+E0FFF
    ∷ []

unfoldable pub ranges : List Codes
ranges = controls ++ spaces ++ ignorables

-- a number is in a range, and in one of several
unfoldable pub in_range : Codes → ℕ → Bool
in_range (codes low high) c = leb low c && leb c high

unfoldable pub in_some : List Codes → ℕ → Bool
in_some [] c = false
in_some (r ∷ rs) c = in_range r c || in_some rs c

unfoldable pub is_invisible : ℕ → Bool
is_invisible c = in_some ranges c
