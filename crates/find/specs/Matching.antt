-- RULES 9.4 and 9.5: the matches of a literal, leftmost and not overlapping, and what is between them.
-- Rust: `Pattern for &str`.
use Rattle.std.specs.Prelude.{ℕ, zero, suc, ◌+◌, ◌-◌, ◌≤◌, ◌<◌, ◌≡◌, Bool, true, false, cond, ◌||◌, List, [], ◌∷◌, ◌++◌, ltb, eqb, length}
use Rattle.buffers.specs.Splice.{part}
use Rattle.buffers.specs.Same.{same}
use Rattle.pattern.specs.declared.Place.{Place}

-- the literal is in the text at p
unfoldable pub occurs_at : List ℕ → List ℕ → ℕ → Bool
occurs_at text literal p = same (part text p (p + length literal)) literal

-- the first of the n positions from `at` on at which it is, or the text's length
unfoldable pub first_of : List ℕ → List ℕ → ℕ → ℕ → ℕ
first_of text literal zero at = length text
first_of text literal (suc n) at = cond (occurs_at text literal at) at (first_of text literal n (suc at))

-- leftmost: the first position from `at` on at which it is; the text's length, at which no literal with a byte
-- is, says that there is none
unfoldable pub first_from : List ℕ → List ℕ → ℕ → ℕ
first_from text literal at = first_of text literal (length text - at) at

-- p is the least position from `at` on at which the literal is, or there is none and p is the text's length
pub record FirstMatch (text literal : List ℕ) (at p : ℕ) : Type 0 where
  pub from : at ≤ p
  pub most : p ≤ length text
  pub before : (k : ℕ) → at ≤ k → k < p → occurs_at text literal k ≡ false
  pub occurs : p < length text → occurs_at text literal p ≡ true

-- CLAIM: the search is leftmost.
abbrev pub FirstLeftmost : Type 0
FirstLeftmost = (text literal : List ℕ) (at : ℕ) → at ≤ length text
    → FirstMatch text literal at (first_from text literal at)

-- the place from a up to e
abbrev pub place_from : ℕ → ℕ → Bool → Place
place_from a e matched = record { start = record { 0 = a }; end = record { 0 = e }; matched = matched }

-- what is between two matches, if anything is
unfoldable pub between : ℕ → ℕ → List Place
between a e = cond (ltb a e) (place_from a e false ∷ []) []

-- not overlapping: up to n matches from `at` on are what is before the first, the first, and the same from its end
unfoldable pub matches_within : List ℕ → List ℕ → ℕ → ℕ → List Place
matches_within text literal zero at = []
matches_within text literal (suc n) at =
    between at (first_from text literal at)
    ++ cond (ltb (first_from text literal at) (length text))
    (place_from (first_from text literal at) (first_from text literal at + length literal) true
    ∷ matches_within text literal n (first_from text literal at + length literal))
    []

-- all of them: a match has a byte at least, so that there are no more than bytes
unfoldable pub matches_from : List ℕ → List ℕ → ℕ → List Place
matches_from text literal at = matches_within text literal (suc (length text - at)) at

-- an empty text and an empty literal: one place, unmatched, up to the text's length
unfoldable pub found_places : List ℕ → List ℕ → List Place
found_places text literal =
    cond (eqb (length text) 0 || eqb (length literal) 0) (place_from 0 (length text) false ∷ [])
    (matches_from text literal 0)
