-- A packed case: parts, each so many times a unit. Total: a unit for which there is no room is left out.
use Rattle.std.specs.Prelude.{ℕ, zero, suc, ◌+◌, ◌-◌, ◌/◌, cond, List, [], ◌++◌, leb, length, drop}
use Rattle.stored_answers.specs.Framing.{leading_number, field_of}

-- n times the unit, in `room` bytes
unfoldable pub times : ℕ → List ℕ → ℕ → List ℕ
times zero unit room = []
times (suc n) unit room = cond (leb (length unit) room) (unit ++ times n unit (room - length unit)) []

-- a part: how many times, then the unit
unfoldable pub part_laid : List ℕ → ℕ → List ℕ
part_laid part room = times (leading_number part) (drop 4 part) room

-- n parts from the k-th on
unfoldable pub parts : ℕ → ℕ → List ℕ → ℕ → List ℕ
parts zero k packed room = []
parts (suc n) k packed room =
    part_laid (field_of k packed) room ++ parts n (k + 1) packed (room - length (part_laid (field_of k packed) room))

-- all parts: each has 8 bytes or more, and past the last they are empty
unfoldable pub unpacked : List ℕ → ℕ → List ℕ
unpacked packed room = parts (length packed / 8) 0 packed room
