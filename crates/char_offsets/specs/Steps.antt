-- Working forms: the index of a byte from that of another, one pair, and a list of pairs.
use Rattle.std.specs.Prelude.{ℕ, ◌+◌, ◌-◌, ◌≤◌, ◌<◌, ◌≡◌, List, length}
use Rattle.buffers.specs.Columns.{column}
use Rattle.buffers.specs.Splice.{overlay}
use Rattle.char_offsets.specs.declared.EndByte.{EndByte}
use Rattle.char_offsets.specs.declared.Pair.{Pair}
use Rattle.char_offsets.specs.Positions.{index_of, end_index, pair_of, pair_at, pair_number, pair_start, pair_end}

-- a byte of a text within a limit (0 of an empty one), and its character
pub record IndexKnown (most : ℕ) (s : List ℕ) (at index : ℕ) : Type 0 where
  pub short : length s ≤ most
  pub inside : at ≤ length s - 1
  pub so_far : index ≡ index_of s at

-- the byte by which an end is told in a text of so many bytes, and what is added to its index
pub record EndTold (size a e : ℕ) (r : EndByte) : Type 0 where
  pub inside : r.byte.0 < size
  pub right : (s : List ℕ) → length s ≡ size → end_index s a e ≡ index_of s r.byte.0 + r.more
  pub little : r.more ≤ 2

-- one pair: its answer in numbers
pub record PairTold (s : List ℕ) (a e : ℕ) (r : Pair) : Type 0 where
  pub number_is : r.number ≡ pair_number (pair_of s a e)
  pub start_is : r.start ≡ pair_start (pair_of s a e)
  pub end_is : r.end ≡ pair_end (pair_of s a e)

-- what writing a list asks: pairs, and room for their answers
pub record PairRoom (starts ends n a e : List ℕ) : Type 0 where
  pub paired : length starts ≡ length ends
  pub numbers_fit : length starts ≤ length n
  pub starts_fit : length starts ≤ length a
  pub ends_fit : length starts ≤ length e

-- each pair's answer, in three columns over what was there
pub record PairsWritten (s starts ends n₀ a₀ e₀ n₁ a₁ e₁ : List ℕ) : Type 0 where
  pub numbers_are : n₁ ≡ overlay (column (length starts) (λ i. pair_number (pair_at s starts ends i))) n₀
  pub starts_are : a₁ ≡ overlay (column (length starts) (λ i. pair_start (pair_at s starts ends i))) a₀
  pub ends_are : e₁ ≡ overlay (column (length starts) (λ i. pair_end (pair_at s starts ends i))) e₀
