-- The input as it comes in, chunk after chunk: what has to be kept of all that was read.
use Rattle.std.specs.Prelude.{ℕ, ◌+◌, min, ◌≡◌, cond, List, [], ◌∷◌, ◌++◌, eqb, take}
use Rattle.buffers.specs.Splice.{Laid}
use Rattle.piece_lines.specs.declared.input.Seen.{Seen}
use Rattle.piece_lines.specs.declared.input.Seen.TheVariants.{Literal, Behavior, Chosen, Note, Whole, Shapeless}
use Rattle.piece_lines.specs.Input.{choice, longest}
use Rattle.piece_lines.specs.Printing.{printed}

-- a line's length, as far as it is counted
abbrev pub counted : ℕ → ℕ
counted n = min (longest + 1) n

-- one more byte
unfoldable pub seen_after : Seen → ℕ → Seen
seen_after (Literal n) b = cond (eqb b 0x0A) (Behavior n) (Literal (counted (n + 1)))
seen_after (Behavior n) b = cond (choice b) (Chosen n b) Shapeless
seen_after (Chosen n d) b = cond (eqb b 0x0A) (Note n d 0) Shapeless
seen_after (Note n d m) b = cond (eqb b 0x0A) (Whole n d m) (Note n d (counted (m + 1)))
seen_after (Whole n d m) b = Shapeless
seen_after Shapeless b = Shapeless

-- some more bytes
unfoldable pub scanned : Seen → List ℕ → Seen
scanned s [] = s
scanned s (b ∷ bs) = scanned (seen_after s b) bs

-- CLAIM: chunk after chunk is the same as all at once.
abbrev pub ScannedOn : Type 0
ScannedOn = (s : Seen) (a b : List ℕ) → scanned s (a ++ b) ≡ scanned (scanned s a) b

-- the most bytes that an input has whose lines are not too long: two lines of text, a digit, three LFs; `KEPT` in the
-- code
abbrev pub head_size : ℕ
head_size = longest + longest + 4

-- what is kept of an input: its first bytes, and what the scan says
pub record HeadKept (input head : List ℕ) (seen : Seen) : Type 0 where
  pub head_is : head ≡ take head_size input
  pub seen_is : seen ≡ scanned (Literal 0) input

-- there is an input of which this is kept
pub record Keeps (head : List ℕ) (seen : Seen) : Type 0 where
  pub input : List ℕ
  pub is_kept : HeadKept input head seen

-- what is printed of any such input is in front of d, which was d₀, and ends at r
abbrev pub HeadPrinted : List ℕ → Seen → List ℕ → ℕ → List ℕ → Type 0
HeadPrinted head seen d₀ r d = (input : List ℕ) → HeadKept input head seen → Laid (printed input) d₀ 0 r d
