-- Reading on: what is seen then is what some more bytes of the input give.
use Rattle.std.specs.Prelude.{◌≡◌, ◌≤◌, List, ℕ, length, take}
use Rattle.piece_lines.specs.declared.input.Seen.{Seen}
use Rattle.piece_lines.specs.Scanning.{scanned, Keeps}

pub record Behind (before after : Seen) : Type 0 where
  pub bytes : List ℕ
  pub is : after ≡ scanned before bytes

-- so many bytes in front of a buffer are what is kept of an input
pub record Kept (n : ℕ) (seen : Seen) (head : List ℕ) : Type 0 where
  pub within : n ≤ length head
  pub is_kept : Keeps (take n head) seen
