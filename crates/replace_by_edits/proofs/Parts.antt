-- Laws of `part`: a list cut at two of its places.
use Prim.Native.Nat.{ℕ, ◌+◌, ◌-◌, ◌≤◌}
use mathlib.Core.Path.{◌≡◌, ◌∙◌, sym}
use mathlib.Core.List.{List, ◌++◌}
use native.Mathlib.Omega.{arith}
use lib.ListN.{take, drop, take-append-drop}
use lib.Seq.{take-add, drop-drop}
use Rattle.buffers.specs.Splice.{part}

-- what is from a on, cut at e
pub drop-parts : (xs : List ℕ) (a e : ℕ) → a ≤ e → drop a xs ≡ part xs a e ++ drop e xs
drop-parts xs a e h =
    let there : a + (e - a) ≡ e = omega arith in
    sym (take-append-drop (e - a) (drop a xs)) ∙ rw (drop-drop (e - a) a xs, there)

-- what is before e, cut at a
pub take-parts : (xs : List ℕ) (a e : ℕ) → a ≤ e → take e xs ≡ take a xs ++ part xs a e
take-parts xs a e h =
    let there : a + (e - a) ≡ e = omega arith in
    rw there at (take-add a (e - a) xs)
