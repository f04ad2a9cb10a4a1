-- RULES 7: what is at a byte of an edit script. A command is its number (1 replace, 2 add, 3 replace and remove)
-- and a code point in four little-endian bytes; 3 has in two more how many characters it removes after the one it
-- replaces.
use Rattle.std.specs.Prelude.{ℕ, ◌+◌, Bool, true, false, cond, ◌&&◌, ◌||◌, not, List, [], ◌∷◌, leb, ltb, eqb, length, get_or, Option, Some, None}
use Rattle.buffers.specs.Splice.{part}
use Rattle.numbers.specs.Entries.{read_from}
use Rattle.numbers.specs.LittleEndian.{value_of}
use Rattle.utf8.specs.Scalar.{scalar}
use Rattle.note.specs.declared.Refusal.{Refusal}
use Rattle.note.specs.declared.Refusal.TheVariants.{BadScript}
use Rattle.note.specs.Refusals.{none, meets}
use Rattle.script.specs.declared.Command.{Command}

-- how many bytes a command has, by its number; 0 for an unknown one
unfoldable pub command_size : ℕ → ℕ
command_size b = cond (eqb b 1 || eqb b 2) 5 (cond (eqb b 3) 7 0)

unfoldable pub character_at : List ℕ → ℕ → ℕ
character_at l i = value_of (part l (i + 1) (i + 5))

unfoldable pub removed_at : List ℕ → ℕ → ℕ
removed_at l i = value_of (part l (i + 5) (i + 7))

-- a removing command has to remove something
unfoldable pub removal_at : List ℕ → ℕ → ℕ → Option (Command × ℕ)
removal_at l i c =
    cond (eqb (removed_at l i) 0) None (Some (record { character = c; added = false; removed = removed_at l i }, i + 7))

-- a command, and where the next one begins; or an unknown command, a cut operand, a number that is no scalar value, a
-- removal of 0
unfoldable pub command_at : List ℕ → ℕ → Option (Command × ℕ)
command_at l i =
    cond (ltb 0 (command_size (get_or l i 0)) && leb (i + command_size (get_or l i 0)) (length l) && scalar (character_at l i))
    (cond (eqb (get_or l i 0) 3) (removal_at l i (character_at l i))
    (Some (record { character = character_at l i; added = eqb (get_or l i 0) 2; removed = 0 }, i + 5)))
    None

-- what is said of an entry: of a command and where the next one begins, or of none
abbrev pub of_command : {A : Type 0} → A → (Command → ℕ → A) → Option (Command × ℕ) → A
of_command none some (Some (c, next)) = some c next
of_command none some None = none

-- how many bytes the entry at the front of a script has; after one that is no command nothing is read
abbrev pub front_size : List ℕ → ℕ
front_size l = of_command 1 (λ c next. next) (command_at l 0)

-- the commands of a script, up to an entry that is none
unfoldable pub commands_of : List ℕ → List Command
commands_of l = read_from front_size (λ l cs. of_command [] (λ c next. c ∷ cs) (command_at l 0)) [] 0 l

-- whether each entry of a script is a command
unfoldable pub whole : List ℕ → Bool
whole l = read_from front_size (λ l rest. of_command false (λ c next. rest) (command_at l 0)) true 0 l

-- which refusal condition a script meets
abbrev pub script_faults : List ℕ → Refusal → Bool
script_faults l = meets BadScript (not (whole l)) none
