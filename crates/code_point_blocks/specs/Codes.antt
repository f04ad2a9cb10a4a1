-- Code points, one after the other: their bytes, and whether they are any.
use Rattle.std.specs.Prelude.{ℕ, Bool, true, ◌&&◌, List, [], ◌∷◌, ◌++◌}
use Rattle.utf8.specs.Scalar.{scalar, bytes_of}

-- the bytes of code points, one after the other
unfoldable pub text_of : List ℕ → List ℕ
text_of [] = []
text_of (c ∷ cs) = bytes_of c ++ text_of cs

-- each of them is a scalar value
unfoldable pub all_scalar : List ℕ → Bool
all_scalar [] = true
all_scalar (c ∷ cs) = scalar c && all_scalar cs
