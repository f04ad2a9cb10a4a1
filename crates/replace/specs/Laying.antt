-- What the inner functions of `replace` are told and say: one place laid down, a column of them, all three columns.
use Rattle.std.specs.Prelude.{ℕ, ◌+◌, ◌≤◌, ◌≡◌, true, List, length}
use Rattle.buffers.specs.Splice.{overlay}
use Rattle.buffers.specs.Over.{Over}
use Rattle.pattern.specs.declared.Place.{Place}
use Rattle.pattern.specs.Entries.{places_of}
use Rattle.pattern.specs.Places.{covers_from}
use Rattle.replace.specs.Replacing.{piece, laid, carried}
use Rattle.replace.specs.Sizes.{place_size, places_size}

-- a place of a column, and room for what it gives beside a content of `contentLen` bytes
pub record PlaceRoom (column : List ℕ) (content_len : ℕ) (p : Place) (until : ℕ) (d : List ℕ) (at : ℕ) : Type 0 where
  pub onward : p.start.0 ≤ p.end.0
  pub inside : p.end.0 ≤ length column
  pub room : at + place_size content_len p ≤ length d
  pub until_room : until ≤ length d

-- what it gives is in d from `at` on
pub record PlaceLaid (fill : ℕ → List ℕ) (column : List ℕ) (content_len : ℕ) (p : Place) (until : ℕ) (d₀ : List ℕ)
    (at r : ℕ) (d : List ℕ) : Type 0 where
  pub reached : r ≡ at + place_size content_len p
  pub holds : Over (piece fill p column) d₀ at until d

-- a list that covers a text of the column's length, and room for what it gives, which is no less than `until`
pub record ColumnReady (column list : List ℕ) (content_len until : ℕ) (d : List ℕ) : Type 0 where
  pub text : List ℕ
  pub long : length column ≡ length text
  pub covered : covers_from text 0 (places_of list) ≡ true
  pub room : places_size content_len (places_of list) ≤ length d
  pub below : until ≤ places_size content_len (places_of list)

-- what the places give of a column is in front of d
pub record ColumnLaid (fill : ℕ → List ℕ) (column list d₀ : List ℕ) (r : ℕ) (d : List ℕ) : Type 0 where
  pub reached : r ≡ length (laid fill (places_of list) column)
  pub holds : d ≡ overlay (laid fill (places_of list) column) d₀

-- a list that covers the text, and room for the whole result
pub record Ready (text starts ends list content out starts₀ ends₀ : List ℕ) : Type 0 where
  pub one_start : length starts ≡ length text
  pub one_end : length ends ≡ length text
  pub covered : covers_from text 0 (places_of list) ≡ true
  pub text_room : places_size (length content) (places_of list) ≤ length out
  pub starts_room : places_size (length content) (places_of list) ≤ length starts₀
  pub ends_room : places_size (length content) (places_of list) ≤ length ends₀

-- the whole result is in front
pub record AllLaid (text starts ends list content out₀ starts₀ ends₀ : List ℕ) (r : ℕ)
    (out starts₁ ends₁ : List ℕ) : Type 0 where
  pub reached : r ≡ length (laid (λ end. content) (places_of list) text)
  pub text_is : out ≡ overlay (laid (λ end. content) (places_of list) text) out₀
  pub starts_are : starts₁ ≡ overlay (laid (carried (length content) starts) (places_of list) starts) starts₀
  pub ends_are : ends₁ ≡ overlay (laid (carried (length content) ends) (places_of list) ends) ends₀
