-- Laws of what a byte announces, each computed over all 256 bytes: by the rows of Table 3-7, by `length_table`, by ranges.
use Prim.Native.Nat.{ℕ, ◌≤◌, ◌<◌}
use mathlib.Core.Path.{◌≡◌, refl}
use mathlib.Core.Bool.{Bool, true, cond}
use lib.Dec.{eqb}
use lib.ListN.{get_or}
use borrow.Author.Tests.{eqb-true, le-leb}
use Rattle.buffers.specs.Every.{every_below}
use Rattle.buffers.proofs.Every.{every-at}
use Rattle.utf8.specs.Table.{bytes, within, rows}
use Rattle.utf8.specs.Formed.{announced}
use Rattle.utf8.specs.Lengths.{columns_of, AnnouncedRow, length_table, LengthTableRight}

of_rows : ℕ → Bool
of_rows b = eqb (announced b) (columns_of b rows)

pub announced-row : AnnouncedRow
unfolding every_below of_rows announced columns_of rows within
announced-row b h = eqb-true (announced b) (columns_of b rows) (every-at 256 of_rows refl b h)

right : ℕ → Bool
right b = eqb (get_or length_table b 0) (announced b)

pub length-table-right : LengthTableRight
unfolding every_below right length_table announced
length-table-right b h = eqb-true (get_or length_table b 0) (announced b) (every-at 256 right refl b h)

-- each byte from low to high announces n
unfoldable pub all_announce : ℕ → ℕ → ℕ → Bool
all_announce low high n = every_below 256 (λ b. cond (within (bytes low high) b) (eqb n (announced b)) true)

pub announced-among : {low high n b : ℕ} → low ≤ b → b ≤ high → b < 256 → all_announce low high n ≡ true → n ≡ announced b
unfolding all_announce within
announced-among {low} {high} {n} {b} from to byte every =
    eqb-true n (announced b) (rw (le-leb low b from, le-leb b high to) at (every-at 256 (λ k. cond (within (bytes low high) k) (eqb n (announced k)) true) every b byte))
