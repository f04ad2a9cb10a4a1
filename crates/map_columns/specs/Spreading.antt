-- What a column has for each character of a text, and that given to other characters.
use Rattle.std.specs.Prelude.{ℕ, cond, List, [], ◌∷◌, ◌++◌, replicate}
use Rattle.utf8.specs.Formed.{continues}
use Rattle.utf8.specs.Scalar.{len_utf8}

-- what a column has for each character of a text: its element at the character's first byte
unfoldable pub of_chars : List ℕ → List ℕ → List ℕ
of_chars [] xs = []
of_chars (b ∷ s) [] = []
of_chars (b ∷ s) (x ∷ xs) = cond (continues b) (of_chars s xs) (x ∷ of_chars s xs)

-- values, one for each code point, as its bytes carry them
unfoldable pub spread : List ℕ → List ℕ → List ℕ
spread [] xs = []
spread (c ∷ cs) [] = []
spread (c ∷ cs) (x ∷ xs) = replicate (len_utf8 c) x ++ spread cs xs
