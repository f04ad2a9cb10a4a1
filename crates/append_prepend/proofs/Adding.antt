-- Laws of what a string's characters give when they are added.
use Prim.Native.Nat.{ℕ, zero, suc, ◌+◌}
use mathlib.Core.Path.{◌≡◌, ap, refl, sym}
use mathlib.Core.Bool.{false}
use mathlib.Core.List.{List, [], ◌∷◌, ◌++◌}
use native.Mathlib.Omega.{arith}
use lib.ListN.{length, replicate, length-append}
use Rattle.utf8.specs.Scalar.{bytes_of}
use Rattle.note.specs.Notes.{before_end}
use Rattle.utf8.specs.Scalar.{len_utf8}
use Rattle.edit_steps.specs.Edits.{starves, moved, starved, carried_value, characters, carried_values, produced}
use Rattle.code_point_blocks.specs.Codes.{text_of}
use Rattle.edits.specs.Whole.{all_adding}

pub replicate-add : (a b v : ℕ) → replicate (a + b) v ≡ replicate a v ++ replicate b v
replicate-add zero b v = let z : 0 + b ≡ b = omega arith in rw z
replicate-add (suc a) b v = let z : suc a + b ≡ suc (a + b) = omega arith in rw z (ap (◌∷◌ v) (replicate-add a b v))

module _ (s : List ℕ) (b p : ℕ) where
  pub adding-text : (cs : List ℕ) → produced characters s b p (all_adding cs) ≡ text_of cs
  unfolding produced moved all_adding text_of
  adding-text [] = refl
  adding-text (c ∷ cs) = ap (◌++◌ (bytes_of c)) (adding-text cs)

  pub adding-fed : (cs : List ℕ) → starved s b p (all_adding cs) ≡ false
  unfolding starved starves moved all_adding
  adding-fed [] = refl
  adding-fed (c ∷ cs) = adding-fed cs

  pub adding-column : (xs : List ℕ) (cs : List ℕ) → produced (carried_values xs) s b p (all_adding cs) ≡ replicate (length (text_of cs)) (before_end xs p)
  unfolding produced moved carried_value len_utf8 all_adding text_of
  adding-column xs [] = refl
  adding-column xs (c ∷ cs) =
      rw (adding-column xs cs, length-append) (sym (replicate-add (length (bytes_of c)) (length (text_of cs)) (before_end xs p)))
