-- Laws of `number_of`: a refusal's number is not 0, and fits a byte.
use Prim.Native.Nat.{◌<◌}
use native.Mathlib.Omega.{arith}
use Rattle.note.specs.declared.Refusal.{Refusal}
use Rattle.note.specs.declared.Refusal.TheVariants.{IllFormed, TooLong, LengthMismatch, Misaligned, NotBoundary, BadScript, Exhausted, BadMatches, NoRoom, Missing, CountMismatch}
use Rattle.note.specs.Refusals.{number_of}

pub number_of-small : (k : Refusal) → number_of k < 256
number_of-small IllFormed = omega arith
number_of-small TooLong = omega arith
number_of-small LengthMismatch = omega arith
number_of-small Misaligned = omega arith
number_of-small NotBoundary = omega arith
number_of-small BadScript = omega arith
number_of-small Exhausted = omega arith
number_of-small BadMatches = omega arith
number_of-small NoRoom = omega arith
number_of-small Missing = omega arith
number_of-small CountMismatch = omega arith

pub number_of-some : (k : Refusal) → 0 < number_of k
number_of-some IllFormed = omega arith
number_of-some TooLong = omega arith
number_of-some LengthMismatch = omega arith
number_of-some Misaligned = omega arith
number_of-some NotBoundary = omega arith
number_of-some BadScript = omega arith
number_of-some Exhausted = omega arith
number_of-some BadMatches = omega arith
number_of-some NoRoom = omega arith
number_of-some Missing = omega arith
number_of-some CountMismatch = omega arith
