-- Laws of `asNormalized` and `asOriginal`, by the text that a range is of.
use mathlib.Core.Path.{◌≡◌, ◌∙◌, refl}
use Prim.Native.Nat.{ℕ}
use mathlib.Core.List.{List}
use Rattle.std.specs.Prelude.{Result, Ok}
use Rattle.note.specs.declared.OriginalByte.{OriginalByte}
use Rattle.note.specs.declared.NormalizedByte.{NormalizedByte}
use Rattle.convert.specs.declared.Range.{Range}
use Rattle.convert.specs.declared.Range.TheVariants.{Original, Normalized}
use Rattle.convert.specs.Converting.{converted, as_normalized, as_original}
use Rattle.note.specs.declared.Refusal.{Refusal}

module _ (starts ends : List ℕ) {range : Range} where
  pub as_normalized-other : {a b : OriginalByte} {r : Result Range Refusal} → range ≡ Original a b → r ≡ converted starts ends range → r ≡ as_normalized starts ends range
  unfolding as_normalized
  as_normalized-other is e = rw is at e ∙ rw is refl

  pub as_normalized-own : {a b : NormalizedByte} → range ≡ Normalized a b → Ok range ≡ as_normalized starts ends range
  unfolding as_normalized
  as_normalized-own is = rw is

  pub as_original-other : {a b : NormalizedByte} {r : Result Range Refusal} → range ≡ Normalized a b → r ≡ converted starts ends range → r ≡ as_original starts ends range
  unfolding as_original
  as_original-other is e = rw is at e ∙ rw is refl

  pub as_original-own : {a b : OriginalByte} → range ≡ Original a b → Ok range ≡ as_original starts ends range
  unfolding as_original
  as_original-own is = rw is
