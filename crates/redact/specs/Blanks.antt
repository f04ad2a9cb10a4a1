-- What the functions that blank every match are told and say.
use Rattle.std.specs.Prelude.{ℕ, ◌*◌, min, ◌≤◌, ◌<◌, ◌≡◌, true, List, length}
use Rattle.buffers.specs.Splice.{overlay}
use Rattle.utf8.specs.Formed.{well_formed}
use Rattle.note.specs.Notes.{limit}
use Rattle.note.specs.Starting.{starting}
use Rattle.find.specs.Matching.{found_places}
use Rattle.find.specs.Searching.{first_match}
use Rattle.replace.specs.Replacing.{laid, carried}
use Rattle.replace.specs.Sizes.{places_size}

-- where so many bytes of a text are left, more than 80 of the result are: each of a match's `literal` bytes gives at
-- least the smaller of two `literal`th parts, its own or that of a content of `contentLen` bytes
pub record Margin (size literal content_len margin : ℕ) : Type 0 where
  pub enough : (k : ℕ) → margin ≤ k → k ≤ size → 80 * literal < min content_len literal * k

-- a text and its first match, and room for the result
pub record Fitting (text literal content : List ℕ) (first : ℕ) (out starts ends : List ℕ) : Type 0 where
  pub formed : well_formed text ≡ true
  pub literal_formed : well_formed literal ≡ true
  pub short : length text ≤ limit
  pub first_is : first ≡ first_match text literal
  pub within : places_size (length content) (found_places text literal) ≤ limit
  pub text_room : places_size (length content) (found_places text literal) ≤ length out
  pub starts_room : places_size (length content) (found_places text literal) ≤ length starts
  pub ends_room : places_size (length content) (found_places text literal) ≤ length ends

-- so many bytes are left of a text once each match, from the first one on, gave way to `contentLen` bytes
pub record Resized (text literal : List ℕ) (first content_len size : ℕ) : Type 0 where
  pub short : length text ≤ limit
  pub first_is : first ≡ first_match text literal
  pub size_is : size ≡ places_size content_len (found_places text literal)

-- a starting note as it is, and room for it
pub record WholeRoom (text out starts ends : List ℕ) : Type 0 where
  pub formed : well_formed text ≡ true
  pub short : length text ≤ limit
  pub text_room : length text ≤ length out
  pub starts_room : length text ≤ length starts
  pub ends_room : length text ≤ length ends

pub record WholeLaid (text out₀ starts₀ ends₀ out starts ends : List ℕ) : Type 0 where
  pub text_is : out ≡ overlay text out₀
  pub starts_are : starts ≡ overlay (starting text).starts starts₀
  pub ends_are : ends ≡ overlay (starting text).ends ends₀

-- what is found gives way in the text and in both columns of its starting note
pub record FoundLaid (text literal content out₀ starts₀ ends₀ : List ℕ) (r : ℕ) (out starts ends : List ℕ)
    : Type 0 where
  pub reached : r ≡ length (laid (λ end. content) (found_places text literal) text)
  pub text_is : out ≡ overlay (laid (λ end. content) (found_places text literal) text) out₀
  pub starts_are :
      starts ≡ overlay (laid (carried (length content) (starting text).starts) (found_places text literal)
      (starting text).starts) starts₀
  pub ends_are :
      ends ≡ overlay (laid (carried (length content) (starting text).ends) (found_places text literal)
      (starting text).ends) ends₀
