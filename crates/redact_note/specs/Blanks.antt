-- What the contracts of the inner functions are said with.
use Rattle.std.specs.Prelude.{ℕ, ◌+◌, ◌*◌, ◌-◌, ◌≤◌, min, ◌≡◌, Bool, ◌&&◌, List, leb, length}
use Rattle.buffers.specs.Splice.{overlay}
use Rattle.note.specs.Notes.{limit}
use Rattle.find.specs.Matching.{found_places}
use Rattle.find.specs.Finding.{found_bytes}
use Rattle.find.specs.Searching.{first_match}
use Rattle.replace.specs.Sizes.{places_size}
use Rattle.replace.specs.Laying.{Ready, AllLaid}

-- a text within the limit, and so many matches of so many bytes in it
pub record Matched (size count literal_len : ℕ) : Type 0 where
  pub short : size ≤ limit
  pub few : count ≤ size
  pub inside : count * literal_len ≤ size

-- its size once each of them gave way to `contentLen` bytes
unfoldable pub blanked_size : ℕ → ℕ → ℕ → ℕ → ℕ
blanked_size size count literal_len content_len = (size - count * literal_len) + count * content_len

-- there is room for the list, and for what is published beside a content of `contentLen` bytes
unfoldable pub rooms_fit : ℕ → List ℕ → List ℕ → ℕ → ℕ → ℕ → Bool
rooms_fit most text literal content_len list result =
    leb (length (found_bytes text literal)) list
    && leb (places_size content_len (found_places text literal)) (min most result)

-- what is known of text and literal before the room is judged, and the first match
pub record Searchable (text literal : List ℕ) (first : ℕ) : Type 0 where
  pub short : length text ≤ limit
  pub first_is : first ≡ first_match text literal

-- what is known once nothing is refused
pub record NoteBlankable (text starts ends literal content : List ℕ) (first : ℕ) (list out starts₀ ends₀ : List ℕ)
    : Type 0 where
  pub searchable : Searchable text literal first
  pub list_room : length (found_bytes text literal) ≤ length list
  pub ready : Ready text starts ends (found_bytes text literal) content out starts₀ ends₀

-- list and result are in front of the passed buffers
pub record NoteBlanked (text starts ends literal content list₀ out₀ starts₀ ends₀ : List ℕ) (r : ℕ)
    (list out starts₁ ends₁ : List ℕ) : Type 0 where
  pub list_is : list ≡ overlay (found_bytes text literal) list₀
  pub laid : AllLaid text starts ends (found_bytes text literal) content out₀ starts₀ ends₀ r out starts₁ ends₁
