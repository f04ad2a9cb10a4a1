-- What the inner functions of `get_splits` are told and say: one piece after the other, by its cleaned start and end.
use Rattle.std.specs.Prelude.{ℕ, ◌+◌, ◌-◌, ◌≤◌, ◌<◌, ◌≡◌, Bool, true, false, ◌&&◌, List, [], ◌∷◌, map, leb, ltb, length, get_or, take}
use Rattle.buffers.specs.Splice.{overlay}
use Rattle.convert.specs.declared.OffsetReferential.{OffsetReferential}
use Rattle.convert.specs.declared.OffsetReferential.TheVariants.{Original, Normalized}
use Rattle.spans.specs.Packing.{span_start, span_end}
use Rattle.char_columns.specs.declared.OffsetType.{OffsetType}
use Rattle.char_columns.specs.Numbers.{start_number, end_number}

-- the bytes of a piece a..b, from the sum of the sizes before it on
unfoldable pub from_byte : List ℕ → ℕ → OffsetReferential → ℕ → ℕ → ℕ
from_byte starts shift Original sum a = shift + get_or starts a 0
from_byte starts shift Normalized sum a = sum

unfoldable pub to_byte : List ℕ → ℕ → OffsetReferential → ℕ → ℕ → ℕ → ℕ
to_byte ends shift Original sum a b = shift + get_or ends (b - 1) 0
to_byte ends shift Normalized sum a b = sum + (b - a)

-- a piece that has a byte, after pieces of that sum
pub record Piece (most : ℕ) (starts ends : List ℕ) (shift sum a b : ℕ) : Type 0 where
  pub some : a < b
  pub behind : sum ≤ a
  pub in_starts : b ≤ length starts
  pub in_ends : b ≤ length ends
  pub few : length starts ≤ most
  pub low : shift ≤ most

-- pieces inside a text of `size` bytes, each with a byte, one after the other from `at` on
unfoldable pub in_order : ℕ → ℕ → List ℕ → List ℕ → Bool
in_order size at [] [] = true
in_order size at [] (b ∷ to) = false
in_order size at (a ∷ from) [] = false
in_order size at (a ∷ from) (b ∷ to) = leb at a && ltb a b && leb b size && in_order size b from to

-- a number for each piece
unfoldable pub each_span : (ℕ → ℕ → ℕ) → List ℕ → List ℕ → ℕ → OffsetReferential → ℕ → List ℕ → List ℕ → List ℕ
each_span number starts ends shift side sum [] to = []
each_span number starts ends shift side sum (a ∷ from) [] = []
each_span number starts ends shift side sum (a ∷ from) (b ∷ to) =
    number (from_byte starts shift side sum a) (to_byte ends shift side sum a b)
    ∷ each_span number starts ends shift side (sum + (b - a)) from to

-- the first `count` numbers of a column have the ends of such pieces, of a note within the limit; the other column has
-- room for as many
pub record SpansReady (most : ℕ) (starts ends : List ℕ) (shift count : ℕ) (spans to : List ℕ) : Type 0 where
  pub low : shift ≤ most
  pub few : length starts ≤ most
  pub one_end : length ends ≡ length starts
  pub starts_room : count ≤ length spans
  pub ends_room : count ≤ length to
  pub ordered : in_order (length starts) 0 (map span_start (take count spans)) (map span_end (take count spans)) ≡ true

-- and become their bytes
pub record BytesWritten (starts ends : List ℕ) (shift : ℕ) (side : OffsetReferential)
    (count : ℕ) (spans₀ to₀ from to : List ℕ) : Type 0 where
  pub starts_are : from ≡ overlay
      (each_span (λ a e. a) starts ends shift side 0
      (map span_start (take count spans₀)) (map span_end (take count spans₀))) spans₀
  pub ends_are : to ≡ overlay
      (each_span (λ a e. e) starts ends shift side 0
      (map span_start (take count spans₀)) (map span_end (take count spans₀))) to₀

-- or their numbers in what was asked
pub record SpansConverted (original starts ends : List ℕ) (shift : ℕ) (side : OffsetReferential) (unit : OffsetType)
    (count : ℕ) (spans₀ to₀ from to : List ℕ) : Type 0 where
  pub starts_are : from ≡ overlay
      (each_span (start_number original unit) starts ends shift side 0
      (map span_start (take count spans₀)) (map span_end (take count spans₀))) spans₀
  pub ends_are : to ≡ overlay
      (each_span (end_number original unit) starts ends shift side 0
      (map span_start (take count spans₀)) (map span_end (take count spans₀))) to₀
