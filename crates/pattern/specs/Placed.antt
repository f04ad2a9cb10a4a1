-- The working form of `covers`: the bytes of 16 places, each judged with those beside it.
use Rattle.std.specs.Prelude.{ℕ, zero, suc, ◌+◌, ◌-◌, ◌*◌, ◌%◌, ◌≤◌, ◌≡◌, Bool, cond, ◌&&◌, ◌||◌, not, List, leb, eqb, length, get_or, drop, Option, Some, None}
use Rattle.buffers.specs.Every.{every_below}
use Rattle.utf8.specs.Formed.{boundary}
use Rattle.pattern.specs.declared.blocks.Judged.{Judged}
use Rattle.pattern.specs.Entries.{entry_at, places_of, position_at, whole_list}
use Rattle.pattern.specs.Places.{fits_at, covers_from, covers}
use Rattle.pattern.specs.declared.Place.{Place}

-- the byte `a` at j of a block, three bytes after `before` and followed by b, c, d: a known command; a byte of a
-- start that is the one of the end before it; a start a b that is not above its end c d
unfoldable pub placed_at : ℕ → ℕ → ℕ → ℕ → ℕ → ℕ → Bool
placed_at j before a b c d =
    (not (eqb (j % 5) 0) || (eqb a 11 || eqb a 12))
    && ((not (eqb (j % 5) 1) && not (eqb (j % 5) 2)) || eqb a before)
    && (not (eqb (j % 5) 1) || leb (a + b * 256) (c + d * 256))

-- the byte j of the block that begins at i
unfoldable pub placed_byte : List ℕ → ℕ → ℕ → Bool
placed_byte l i j =
    placed_at j (get_or l (i - 3 + j) 0) (get_or l (i - 3 + j + 3) 0) (get_or l (i - 3 + j + 4) 0)
    (get_or l (i - 3 + j + 5) 0) (get_or l (i - 3 + j + 6) 0)

-- its place k ends on a boundary of the text
unfoldable pub end_stands : List ℕ → List ℕ → ℕ → ℕ → Bool
end_stands text l i k = boundary text (position_at l (i + 5 * k + 3)).0

-- the 16 places from i on fit after those before them
unfoldable pub block_fits : List ℕ → List ℕ → ℕ → Bool
block_fits text l i = every_below 80 (placed_byte l i) && every_below 16 (end_stands text l i)

-- where the first of n blocks from i on begins that does not fit, or that three more bytes do not follow
unfoldable pub blocks_end : List ℕ → List ℕ → ℕ → ℕ → ℕ
blocks_end text l zero i = i
blocks_end text l (suc n) i = cond (leb (i + 83) (length l) && block_fits text l i) (blocks_end text l n (i + 80)) i

-- the places before i, of which the last ends where its two bytes say
unfoldable pub judged_to : List ℕ → ℕ → Judged
judged_to l i = record { at = (position_at l (i - 2)).0; next = i }

-- what is judged after the first entry: none where it does not fit
unfoldable pub judged_after : List ℕ → List ℕ → Option (Place × ℕ) → Judged
judged_after text l (Some (p, next)) =
    cond (fits_at text 0 p) (judged_to l (blocks_end text l (length l) next)) (record { at = 0; next = 0 })
judged_after text l None = record { at = 0; next = 0 }

-- the first place and the blocks after it, as far as all of it fits
unfoldable pub judged_blocks : List ℕ → List ℕ → Judged
judged_blocks text l = judged_after text l (entry_at l 0)

-- the list covers the text where what is from i on covers it from `at` on
pub record Covering (text l : List ℕ) (at i : ℕ) : Type 0 where
  pub same : covers text l ≡ (whole_list (drop i l) && covers_from text at (places_of (drop i l)))
  pub most : i ≤ length l

-- CLAIM: so it is where the judged places end.
abbrev pub JudgedCover : Type 0
JudgedCover = (text l : List ℕ) → Covering text l (judged_blocks text l).at (judged_blocks text l).next
