-- Bytes that stay with their alignments: a part of a text and of its two columns.
use Rattle.std.specs.Prelude.{ℕ, ◌+◌, ◌-◌, ◌≤◌, ◌≡◌, List, length}
use Rattle.buffers.specs.Splice.{part, splice}

-- bytes and alignments that stay, from `from` to `to`, and room for them
pub record KeepRoom (text starts ends : List ℕ) (from to : ℕ) (out starts₀ ends₀ : List ℕ) (at : ℕ) : Type 0 where
  pub onward : from ≤ to
  pub in_text : to ≤ length text
  pub in_starts : to ≤ length starts
  pub in_ends : to ≤ length ends
  pub text_room : at + (to - from) ≤ length out
  pub starts_room : at + (to - from) ≤ length starts₀
  pub ends_room : at + (to - from) ≤ length ends₀

pub record PartKept (text starts ends : List ℕ) (from to : ℕ) (out₀ starts₀ ends₀ : List ℕ) (at : ℕ)
    (out starts₁ ends₁ : List ℕ) : Type 0 where
  pub text_is : out ≡ splice out₀ at (part text from to)
  pub starts_are : starts₁ ≡ splice starts₀ at (part starts from to)
  pub ends_are : ends₁ ≡ splice ends₀ at (part ends from to)
