-- What the functions that blank every match are told and say.
use Rattle.std.specs.Prelude.{ℕ, ◌+◌, ◌-◌, ◌≤◌, ◌<◌, min, ◌≡◌, true, List, ◌++◌, length, get_or, take, drop}
use Rattle.buffers.specs.Splice.{part, overlay}
use Rattle.utf8.specs.Formed.{well_formed}
use Rattle.validity_blocks.specs.Extremes.{largest}
use Rattle.note.specs.Notes.{limit}
use Rattle.note.specs.Starting.{starting}
use Rattle.find.specs.Matching.{matches_from}
use Rattle.find.specs.Searching.{Absent}
use Rattle.replace.specs.Replacing.{laid, carried}
use Rattle.replace.specs.Sizes.{places_size}
use Rattle.redact_blocks.specs.Keeping.{StretchRoom, Stretch}

-- what a column gives from byte i of the text on
unfoldable pub result_from : (ℕ → List ℕ) → List ℕ → List ℕ → List ℕ → ℕ → List ℕ
result_from fill text literal xs i = laid fill (matches_from text literal i) xs

-- a text and a literal, and room from `at` on for what they give from byte i on
pub record Blankable (text literal content : List ℕ) (i at : ℕ) (out starts ends : List ℕ) : Type 0 where
  pub formed : well_formed text ≡ true
  pub literal_formed : well_formed literal ≡ true
  pub short : length text ≤ limit
  pub some : 0 < length literal
  pub inside : i ≤ length text
  pub within : at + places_size (length content) (matches_from text literal i) ≤ limit
  pub text_room : at + places_size (length content) (matches_from text literal i) ≤ length out
  pub starts_room : at + places_size (length content) (matches_from text literal i) ≤ length starts
  pub ends_room : at + places_size (length content) (matches_from text literal i) ≤ length ends

-- a column d that is laid before `at`, with the text from i on to come, is laid on to d₁, before at₁ and from i₁ on;
-- after all of the result it is as it was
pub record Onward (fill : ℕ → List ℕ) (text literal xs : List ℕ) (i at : ℕ) (d : List ℕ) (i₁ at₁ : ℕ) (d₁ : List ℕ)
    : Type 0 where
  pub so_far : take at₁ d₁ ++ result_from fill text literal xs i₁ ≡ take at d ++ result_from fill text literal xs i
  pub beyond :
      drop (at + length (result_from fill text literal xs i)) d₁
      ≡ drop (at + length (result_from fill text literal xs i)) d
  pub reach : at₁ + length (result_from fill text literal xs i₁) ≡ at + length (result_from fill text literal xs i)
  pub same : length d₁ ≡ length d

-- the text and both columns of its starting note are
pub record Blanked (text literal content : List ℕ) (i at : ℕ) (out starts ends : List ℕ) (i₁ at₁ : ℕ)
    (out₁ starts₁ ends₁ : List ℕ) : Type 0 where
  pub onward : i ≤ i₁
  pub inside : i₁ ≤ length text
  pub text_on : Onward (λ end. content) text literal text i at out i₁ at₁ out₁
  pub starts_on :
      Onward (carried (length content) (starting text).starts) text literal (starting text).starts
      i at starts i₁ at₁ starts₁
  pub ends_on :
      Onward (carried (length content) (starting text).ends) text literal (starting text).ends
      i at ends i₁ at₁ ends₁

-- blocks are laid from a content and its padding: where so many bytes of the text are left as `margin`
-- says, and 80 elements end below `until`, the result has them
pub record Bounded (text : List ℕ) (most : ℕ) (literal content padded : List ℕ) (i at margin until : ℕ)
    : Type 0 where
  pub most_is : largest text ≤ most
  pub padded_is : part padded 0 (length content) ≡ content
  pub padded_long : length content ≤ length padded
  pub window : length literal + 80 ≤ margin
  pub enough :
      (j b : ℕ) → j ≤ length text → margin ≤ length text - j → b + 80 ≤ until
      → b + places_size (length content) (matches_from text literal j)
      ≡ at + places_size (length content) (matches_from text literal i)
      → b + 80 ≤ at + places_size (length content) (matches_from text literal i)

-- a literal's first bytes, up to 16, in front of 16 bytes
pub record FrontOf (literal front : List ℕ) : Type 0 where
  pub long : 16 ≤ length front
  pub front_is : take (min 16 (length literal)) front ≡ take (min 16 (length literal)) literal

-- beside a text from p on
pub record FrontAt (text literal front : List ℕ) (p : ℕ) : Type 0 where
  pub of_literal : FrontOf literal front
  pub block : p + 16 ≤ length text
  pub some : 0 < length literal
  pub inside : p + length literal ≤ length text

-- a block of 64 from i on, with the bytes that it is searched and counted by
pub record SearchBlockRoom (text : List ℕ) (most : ℕ) (literal : List ℕ) (first last i : ℕ) (out starts ends : List ℕ)
    (at : ℕ) : Type 0 where
  pub most_is : largest text ≤ most
  pub some : 0 < length literal
  pub first_is : first ≡ get_or literal 0 0
  pub last_is : last ≡ get_or literal (length literal - 1) 0
  pub room : StretchRoom text i (i + 64) out starts ends at
  pub low : 3 ≤ i
  pub high : i + length literal + 66 ≤ length text

-- the literal does not stand at k positions from i on, and so much is laid; up to 64 elements are written
pub record BlockPassed (text literal : List ℕ) (i : ℕ) (out₀ starts₀ ends₀ : List ℕ) (at k : ℕ)
    (out starts ends : List ℕ) : Type 0 where
  pub most : k ≤ 64
  pub away : Absent text literal i (i + k)
  pub stretch : Stretch text i (i + k) out₀ starts₀ ends₀ at (at + 64) out starts ends

-- what is found gives way in the text and in both columns of its starting note
pub record AllBlanked (text literal content out₀ starts₀ ends₀ : List ℕ) (r : ℕ) (out starts ends : List ℕ)
    : Type 0 where
  pub reached : r ≡ length (result_from (λ end. content) text literal text 0)
  pub text_is : out ≡ overlay (result_from (λ end. content) text literal text 0) out₀
  pub starts_are :
      starts
      ≡ overlay (result_from (carried (length content) (starting text).starts) text literal (starting text).starts 0)
      starts₀
  pub ends_are :
      ends
      ≡ overlay (result_from (carried (length content) (starting text).ends) text literal (starting text).ends 0) ends₀
