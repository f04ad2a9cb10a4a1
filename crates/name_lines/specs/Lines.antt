-- RULES 14.8: the lines of a file. A line ends with LF or with CR LF; the last one may end with the file.
use Rattle.std.specs.Prelude.{ℕ, ◌<◌, ◌≡◌, Bool, true, false, cond, not, ◌&&◌, List, [], ◌∷◌, ◌++◌, eqb, length, get_or}

-- a byte in front of the first line, or a line of its own where there is none
abbrev pub in_front : ℕ → List (List ℕ) → List (List ℕ)
in_front b [] = (b ∷ []) ∷ []
in_front b (l ∷ ls) = (b ∷ l) ∷ ls

-- the lines, without what ends them: an LF ends a line, and a CR right before an LF is no part of one
unfoldable pub lines_of : List ℕ → List (List ℕ)
lines_of [] = []
lines_of (b ∷ s) =
    cond (eqb b 0x0A) ([] ∷ lines_of s)
    (cond (eqb b 0x0D && eqb (get_or s 0 0) 0x0A) (lines_of s) (in_front b (lines_of s)))

-- no byte is an LF
unfoldable pub feedless : List ℕ → Bool
feedless [] = true
feedless (b ∷ s) = not (eqb b 0x0A) && feedless s

-- the last byte is a CR
unfoldable pub returned : List ℕ → Bool
returned [] = false
returned (b ∷ []) = eqb b 0x0D
returned (b ∷ c ∷ s) = returned (c ∷ s)

-- a file and its lines, of which none has an LF: there is none; one that has a byte ends with the file; an LF ends the
-- first one, which has no CR before it; or a CR and an LF end it
pub data FileLines : List ℕ → List (List ℕ) → Type 0 where
  no_line : FileLines [] []
  last_line : (l : List ℕ) → 0 < length l → feedless l ≡ true → FileLines l (l ∷ [])
  feed-line : (l s : List ℕ) (ls : List (List ℕ)) → feedless l ≡ true → returned l ≡ false → FileLines s ls
      → FileLines (l ++ (0x0A ∷ s)) (l ∷ ls)
  return-line : (l s : List ℕ) (ls : List (List ℕ)) → feedless l ≡ true → FileLines s ls
      → FileLines (l ++ (0x0D ∷ 0x0A ∷ s)) (l ∷ ls)

-- CLAIM: a file is its lines, joined with what ends them.
abbrev pub LinesJoined : Type 0
LinesJoined = (s : List ℕ) → FileLines s (lines_of s)
