-- Working forms: the low bytes of the counts, as they are written.
use Rattle.std.specs.Prelude.{◌≡◌, ℕ, ◌+◌, ◌%◌, ◌<◌, ◌≤◌, List, length, slice_index}
use Rattle.buffers.specs.Splice.{part}
use Rattle.utf8.specs.Chars.{leads}
use Rattle.char_counts.specs.Counts.{begun_after_first}

-- how many of the four bytes from a place on begin a character, the places counted from `from` on
unfoldable pub four_at : List ℕ → ℕ → ℕ → ℕ
four_at s from k = leads (part s (from + k) (from + k + 4))

-- and of 16, by four of these
unfoldable pub sixteen_at : List ℕ → ℕ → ℕ
sixteen_at fours k = slice_index fours k + slice_index fours (k + 4) + slice_index fours (k + 8) + slice_index fours (k + 12)

-- the first n low bytes are there
pub record LowsTo (s d₀ : List ℕ) (n : ℕ) (d : List ℕ) : Type 0 where
  pub same : length d ≡ length d₀
  pub lows : (k : ℕ) → k < n → slice_index d k ≡ begun_after_first s k % 256

-- 128 more can be told by those that are there
pub record BlockReady (s : List ℕ) (i : ℕ) (d : List ℕ) : Type 0 where
  pub inside : i + 144 ≤ length s
  pub room : length s ≤ length d
  pub so_far : LowsTo s d (i + 16) d

pub record EachReady (s : List ℕ) (from to : ℕ) (d : List ℕ) : Type 0 where
  pub some : 1 ≤ from
  pub inside : to ≤ length s
  pub room : length s ≤ length d
  pub so_far : LowsTo s d from d
