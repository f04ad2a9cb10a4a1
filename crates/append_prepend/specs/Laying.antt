-- What the inner functions are told and say: room for text and string, and both laid down.
use Rattle.std.specs.Prelude.{ℕ, ◌+◌, ◌≤◌, ◌<◌, ◌≡◌, true, List, ◌++◌, length, get_or, drop, replicate}
use Rattle.buffers.specs.Splice.{overlay}
use Rattle.utf8.specs.Formed.{announced, well_formed}
use Rattle.note.specs.Notes.{before_end}
use Rattle.append_prepend.specs.Joining.{front_of}

pub record JoinRoom (s starts ends string out starts₀ ends₀ : List ℕ) : Type 0 where
  pub one_start : length starts ≡ length s
  pub one_end : length ends ≡ length s
  pub text_room : length s + length string ≤ length out
  pub starts_room : length s + length string ≤ length starts₀
  pub ends_room : length s + length string ≤ length ends₀

pub record AppendedLaid (s starts ends string out₀ starts₀ ends₀ : List ℕ) (r : ℕ) (out starts₁ ends₁ : List ℕ)
    : Type 0 where
  pub reached : r ≡ length s + length string
  pub text_is : out ≡ overlay (s ++ string) out₀
  pub starts_are : starts₁ ≡ overlay (starts ++ replicate (length string) (before_end starts (length s))) starts₀
  pub ends_are : ends₁ ≡ overlay (ends ++ replicate (length string) (before_end ends (length s))) ends₀

-- a column, of which the first `size` elements give way, and room for it after `count` others
pub record FrontRoom (count : ℕ) (xs : List ℕ) (size : ℕ) (out : List ℕ) : Type 0 where
  pub inside : size ≤ length xs
  pub room : count + length xs ≤ length out

-- a text that has a character, and room for it and the string
pub record PrependRoom (s starts ends string out starts₀ ends₀ : List ℕ) : Type 0 where
  pub formed : well_formed s ≡ true
  pub some : 0 < length s
  pub rooms : JoinRoom s starts ends string out starts₀ ends₀

pub record PrependedLaid (s starts ends string out₀ starts₀ ends₀ : List ℕ) (r : ℕ) (out starts₁ ends₁ : List ℕ)
    : Type 0 where
  pub reached : r ≡ length string + length s
  pub text_is : out ≡ overlay (string ++ s) out₀
  pub starts_are :
      starts₁
      ≡ overlay (replicate (length string + announced (get_or s 0 0)) (front_of string starts)
      ++ drop (announced (get_or s 0 0)) starts) starts₀
  pub ends_are :
      ends₁
      ≡ overlay (replicate (length string + announced (get_or s 0 0)) (front_of string ends)
      ++ drop (announced (get_or s 0 0)) ends) ends₀
