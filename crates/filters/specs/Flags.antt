-- RULES 8: what the functions of `filter` are told and say: flags beside the characters of a text.
use Rattle.std.specs.Prelude.{ℕ, ◌+◌, ◌≤◌, ◌<◌, ◌≡◌, Bool, true, false, cond, ◌&&◌, not, List, [], leb, eqb, length, get_or, replicate}
use Rattle.buffers.specs.Splice.{part, splice}
use Rattle.utf8.specs.Formed.{announced, boundary}
use Rattle.utf8.specs.Chars.{chars}
use Rattle.script.specs.declared.Command.{Command}
use Rattle.edit_steps.specs.Edits.{skipped, Edit}
use Rattle.edit_steps.specs.Walking.{Standing}
use Rattle.edit_steps.specs.Laying.{CommandsRoom, Editable, EditRoom}
use Rattle.edits.specs.Characters.{codes_of}
use Rattle.filter_blocks.specs.Counting.{kept_len}
use Rattle.edits.specs.Whole.{dropped_ahead, any_kept, kept_commands}

-- how many characters of the range are skipped at first, and where that leads
unfoldable pub skips : List ℕ → ℕ
skips flags = cond (any_kept flags) (dropped_ahead flags) 0

unfoldable pub first_kept : List ℕ → ℕ → ℕ → List ℕ → ℕ
first_kept s b from flags = skipped s b (skips flags) from

-- the commands of the flags beside a text
unfoldable pub flag_commands : List ℕ → List ℕ → List Command
flag_commands s flags = kept_commands (codes_of s) flags

-- the edit of a range by flags
abbrev pub flag_edit : List ℕ → ℕ → ℕ → List ℕ → Edit
flag_edit s from to flags = record { from = from; to = to; skip = skips flags; commands = flag_commands s flags }

-- a flag that keeps its character finds no character left at the position
unfoldable pub flag_starves : ℕ → ℕ → ℕ → Bool
flag_starves flag b p = not (eqb flag 0) && leb b p

-- a flag for each character of a text, and the range's first position
pub record FlagsReady (s : List ℕ) (b from : ℕ) (flags : List ℕ) : Type 0 where
  pub standing : Standing s b from
  pub counted : length flags ≡ chars s

-- a character's bytes from q on, a position whose alignment they take, and room for them
pub record FlagRoom (flag : ℕ) (s starts ends : List ℕ) (q size p : ℕ) (out starts₀ ends₀ : List ℕ) (at : ℕ)
    : Type 0 where
  pub inside : q + size ≤ length s
  pub start_found : eqb flag 0 ≡ false → p < length starts
  pub end_found : eqb flag 0 ≡ false → p < length ends
  pub text_room : at + kept_len flag size ≤ length out
  pub starts_room : at + kept_len flag size ≤ length starts₀
  pub ends_room : at + kept_len flag size ≤ length ends₀

pub record FlagLaid (flag : ℕ) (s starts ends : List ℕ) (q size p : ℕ) (out₀ starts₀ ends₀ : List ℕ) (at r : ℕ)
    (out starts₁ ends₁ : List ℕ) : Type 0 where
  pub reached : r ≡ at + kept_len flag size
  pub text_is : out ≡ splice out₀ at (cond (eqb flag 0) [] (part s q (q + size)))
  pub starts_are : starts₁ ≡ splice starts₀ at (cond (eqb flag 0) [] (replicate size (get_or starts p 0)))
  pub ends_are : ends₁ ≡ splice ends₀ at (cond (eqb flag 0) [] (replicate size (get_or ends p 0)))

-- flags none of which asks for a character that is not left, and room for what they keep
pub record FlagsRoom (s starts ends : List ℕ) (b from : ℕ) (flags out starts₀ ends₀ : List ℕ) (at : ℕ)
    : Type 0 where
  pub ready : FlagsReady s b from flags
  pub rooms : CommandsRoom s starts ends b (first_kept s b from flags) (flag_commands s flags) out starts₀ ends₀ at

pub record FilterRoom (s starts ends : List ℕ) (a b : ℕ) (flags out starts₀ ends₀ : List ℕ) : Type 0 where
  pub ready : FlagsReady s b a flags
  pub rooms : EditRoom s starts ends a b (first_kept s b a flags) (flag_commands s flags) out starts₀ ends₀

-- the bytes of each character carry one value of a column
abbrev pub OneValue : List ℕ → List ℕ → Type 0
OneValue s xs =
    (q : ℕ) → boundary s q ≡ true → q < length s
    → replicate (announced (get_or s q 0)) (get_or xs q 0) ≡ part xs q (q + announced (get_or s q 0))

pub record RangeReady (s starts ends flags : List ℕ) : Type 0 where
  pub editable : Editable s starts ends
  pub counted : length flags ≡ chars s
  pub one_start : OneValue s starts
  pub one_end : OneValue s ends
