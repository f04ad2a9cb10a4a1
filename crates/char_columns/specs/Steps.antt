-- What the inner functions that count characters are told and say: one pair of bytes after the other.
use Rattle.std.specs.Prelude.{ℕ, ◌+◌, ◌≤◌, ◌≡◌, true, List, [], ◌∷◌, ◌++◌, length, take, replicate}
use Rattle.buffers.specs.Splice.{overlay}
use Rattle.validity.specs.Texts.{ascii}
use Rattle.char_offsets.specs.Steps.{IndexKnown}
use Rattle.char_columns.specs.declared.OffsetType.TheVariants.{Char}
use Rattle.char_columns.specs.declared.Cursor.{Cursor}
use Rattle.char_columns.specs.declared.Offsets.{Offsets}
use Rattle.char_columns.specs.Numbers.{start_number, end_number}

-- a byte of the transcript whose character is known
abbrev pub Known : ℕ → List ℕ → Cursor → Type 0
Known most s c = IndexKnown most s c.at c.index

-- two of them
pub record BothKnown (most : ℕ) (s : List ℕ) (first last : Cursor) : Type 0 where
  pub first_known : Known most s first
  pub last_known : Known most s last

-- the numbers of two bytes in characters, and the characters that are known then
pub record Stepped (most : ℕ) (s : List ℕ) (a e : ℕ) (r : Offsets) : Type 0 where
  pub start_is : r.start ≡ start_number s Char a e
  pub end_is : r.end ≡ end_number s Char a e
  pub known : BothKnown most s r.first r.last

-- at most 16 bytes of a text, from a place on that has 16
pub record Near (s : List ℕ) (from n : ℕ) : Type 0 where
  pub few : n ≤ 16
  pub inside : from + 16 ≤ length s

-- 16 ones and 16 zeros: from 16 - n on, n ones and then zeros
abbrev pub near_flags : List ℕ
near_flags = replicate 16 1 ++ replicate 16 0

-- a number for each pair of two columns
unfoldable pub each_pair : (ℕ → ℕ → ℕ) → List ℕ → List ℕ → List ℕ
each_pair number [] to = []
each_pair number (a ∷ from) [] = []
each_pair number (a ∷ from) (e ∷ to) = number a e ∷ each_pair number from to

-- the first `count` pairs of two columns, beside a text within the limit
pub record PairsReady (most : ℕ) (s : List ℕ) (count : ℕ) (from to : List ℕ) : Type 0 where
  pub short : length s ≤ most
  pub starts_room : count ≤ length from
  pub ends_room : count ≤ length to

-- become characters; or their ends do
pub record CharsCounted (s : List ℕ) (count : ℕ) (from₀ to₀ from to : List ℕ) : Type 0 where
  pub starts_are : from ≡ overlay (each_pair (start_number s Char) (take count from₀) (take count to₀)) from₀
  pub ends_are : to ≡ overlay (each_pair (end_number s Char) (take count from₀) (take count to₀)) to₀

-- the end of a pair, where each byte is a character
pub record PlainEnd (size a e r : ℕ) : Type 0 where
  pub right : (s : List ℕ) → length s ≡ size → ascii s ≡ true → r ≡ end_number s Char a e

pub record EndsCounted (s : List ℕ) (count : ℕ) (from to₀ to : List ℕ) : Type 0 where
  pub ends_are : to ≡ overlay (each_pair (end_number s Char) (take count from) (take count to₀)) to₀
