-- Working forms: how many characters have begun up to a byte, the marks of a text, and a look-up.
use Rattle.std.specs.Prelude.{◌≡◌, ℕ, ◌+◌, ◌-◌, ◌*◌, ◌/◌, ◌%◌, ◌<◌, ◌≤◌, List, length, take, drop, slice_index}
use Rattle.utf8.specs.Chars.{leads}

-- how many characters have begun after the first byte, up to the byte b
unfoldable pub begun_after_first : List ℕ → ℕ → ℕ
begun_after_first s b = leads (take b (drop 1 s))

-- the count at every 128th byte is in front
pub record Marked (s marks : List ℕ) : Type 0 where
  pub enough : length s ≤ 128 * length marks
  pub marked : (k : ℕ) → 128 * k < length s → slice_index marks k ≡ begun_after_first s (128 * k)

-- a text within a limit, and room for its marks
pub record Markable (most : ℕ) (s marks : List ℕ) : Type 0 where
  pub short : length s ≤ most
  pub room : length s ≤ 128 * length marks
  pub some : 1 ≤ length marks

-- the count that a mark and a low byte tell
unfoldable pub count_at : List ℕ → List ℕ → ℕ → ℕ
count_at marks lows b = slice_index marks (b / 128) + (256 + slice_index lows b - slice_index marks (b / 128) % 256) % 256

-- a byte that has a mark and a low byte
pub record LookedUp (marks lows : List ℕ) (b : ℕ) : Type 0 where
  pub mark : b / 128 < length marks
  pub low : b < length lows

-- the counts of a text within a limit
pub record CountsLent (most : ℕ) (s marks lows : List ℕ) : Type 0 where
  pub short : length s ≤ most
  pub marks_are : Marked s marks
  pub long : length s ≤ length lows
  pub lows_are : (k : ℕ) → k < length s → slice_index lows k ≡ begun_after_first s k % 256
