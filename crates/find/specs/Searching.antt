-- What the contracts of the inner functions of searching are said with.
use Rattle.std.specs.Prelude.{ℕ, zero, suc, ◌≤◌, ◌<◌, ◌≡◌, Bool, false, cond, ◌&&◌, not, List, eqb, length, get_or}
use Rattle.buffers.specs.Every.{every_below}
use Rattle.find.specs.Matching.{occurs_at, first_from}

-- `first` is in a and `last` in b, at one index
unfoldable pub together : List ℕ → List ℕ → ℕ → ℕ → ℕ → Bool
together a b first last j = eqb (get_or a j 0) first && eqb (get_or b j 0) last

-- they do at none of n indices
unfoldable pub apart_below : List ℕ → List ℕ → ℕ → ℕ → ℕ → Bool
apart_below a b first last n = every_below n (λ j. not (together a b first last j))

-- the least at which they do of the n indices from j on, or the end of those
unfoldable pub first_together : List ℕ → List ℕ → ℕ → ℕ → ℕ → ℕ → ℕ
first_together a b first last zero j = j
first_together a b first last (suc n) j =
    cond (together a b first last j) j (first_together a b first last n (suc j))

-- the literal is at no position from `from` up to `to`, which is one of the text's
pub record Absent (text literal : List ℕ) (from to : ℕ) : Type 0 where
  pub onward : from ≤ to
  pub most : to ≤ length text
  pub not_there : (k : ℕ) → from ≤ k → k < to → occurs_at text literal k ≡ false

-- the first match; the text's length where there is none, as of a literal without a byte
unfoldable pub first_match : List ℕ → List ℕ → ℕ
first_match text literal = cond (eqb (length literal) 0) (length text) (first_from text literal 0)
