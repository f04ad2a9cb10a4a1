-- Laws of `expanded`, `toOriginal`, `toNormalized`, `converted` and `range_of`: their cases, each as the code comes to it.
use Prim.Native.Nat.{ℕ, ◌-◌, ◌≤◌, ◌<◌}
use mathlib.Core.Path.{◌≡◌, ◌∙◌, ap, sym}
use mathlib.Core.List.{List}
use lib.ListN.{length, get_or}
use borrow.Author.Tests.{le-leb, lt-leb, lt-ltb, le-ltb, eq-eqb, ne_eqb}
use Rattle.std.specs.Prelude.{Result, Ok, Err}
use Rattle.note.specs.declared.OriginalByte.{OriginalByte}
use Rattle.note.specs.declared.NormalizedByte.{NormalizedByte}
use Rattle.note.specs.declared.Refusal.TheVariants.{Missing}
use Rattle.convert.specs.declared.OffsetReferential.{OffsetReferential}
use Rattle.convert.specs.declared.OffsetReferential.TheVariants.{Original as OfOriginal, Normalized as OfNormalized}
use Rattle.convert.specs.declared.Range.{Range}
use Rattle.convert.specs.declared.Range.TheVariants.{Original, Normalized}
use Rattle.convert.specs.declared.Places.{Places}
use Rattle.convert.specs.Converting.{in_original, in_normalized, range_of, expanded, walked, spanned, to_original, to_normalized, converted}
use Rattle.note.specs.declared.Refusal.{Refusal}

pub range_of-original : {side : OffsetReferential} (a b : ℕ) → side ≡ OfOriginal → in_original a b ≡ range_of side a b
unfolding range_of
range_of-original a b is = rw is

pub range_of-normalized : {side : OffsetReferential} (a b : ℕ) → side ≡ OfNormalized → in_normalized a b ≡ range_of side a b
unfolding range_of
range_of-normalized a b is = rw is

pub expanded-past : (starts ends : List ℕ) (a b : ℕ) → length ends < b → Err Missing ≡ expanded starts ends a b
unfolding expanded
expanded-past starts ends a b h = rw (lt-leb b (length ends) h)

pub expanded-inside : (starts ends : List ℕ) (a b : ℕ) → b ≤ length ends → Ok (in_original (get_or starts a 0) (get_or ends (b - 1) 0)) ≡ expanded starts ends a b
unfolding expanded
expanded-inside starts ends a b h = rw (le-leb b (length ends) h)

module _ (starts ends : List ℕ) (a b : NormalizedByte) where
  pub to_original-empty : {x y : OriginalByte} → a.0 ≡ b.0 → x ≡ record { 0 = a.0 } → y ≡ record { 0 = b.0 } → Ok (Original x y) ≡ to_original starts ends a b
  unfolding to_original
  to_original-empty e p q = rw (p, q, eq-eqb a.0 b.0 e)

  pub to_original-reversed : (a.0 ≡ b.0 → ⊥) → b.0 < a.0 → Err Missing ≡ to_original starts ends a b
  unfolding to_original
  to_original-reversed e h = rw (ne_eqb a.0 b.0 e, lt-ltb b.0 a.0 h)

  pub to_original-forward : {r : Result Range Refusal} → (a.0 ≡ b.0 → ⊥) → a.0 ≤ b.0 → r ≡ expanded starts ends a.0 b.0 → r ≡ to_original starts ends a b
  unfolding to_original
  to_original-forward e h is = rw (is, ne_eqb a.0 b.0 e, le-ltb b.0 a.0 h)

module _ (starts ends : List ℕ) (a b : OriginalByte) where
  pub to_normalized-empty : {x y : NormalizedByte} → a.0 ≡ b.0 → x ≡ record { 0 = a.0 } → y ≡ record { 0 = b.0 } → Ok (Normalized x y) ≡ to_normalized starts ends a b
  unfolding to_normalized
  to_normalized-empty e p q = rw (p, q, eq-eqb a.0 b.0 e)

  pub to_normalized-reversed : (a.0 ≡ b.0 → ⊥) → b.0 < a.0 → Err Missing ≡ to_normalized starts ends a b
  unfolding to_normalized
  to_normalized-reversed e h = rw (ne_eqb a.0 b.0 e, lt-ltb b.0 a.0 h)

  pub to_normalized-forward : {found is : Places} → (a.0 ≡ b.0 → ⊥) → a.0 ≤ b.0 → found ≡ walked starts ends a.0 b.0 → found ≡ is → spanned is ≡ to_normalized starts ends a b
  unfolding to_normalized
  to_normalized-forward e h w p =
      rw (ne_eqb a.0 b.0 e, le-ltb b.0 a.0 h) (ap spanned (sym p ∙ w))

pub converted-normalized : (starts ends : List ℕ) {r : Result Range Refusal} {range : Range} {a b : NormalizedByte} → range ≡ Normalized a b → r ≡ to_original starts ends a b → r ≡ converted starts ends range
unfolding converted
converted-normalized starts ends is e = rw is e

pub converted-original : (starts ends : List ℕ) {r : Result Range Refusal} {range : Range} {a b : OriginalByte} → range ≡ Original a b → r ≡ to_normalized starts ends a b → r ≡ converted starts ends range
unfolding converted
converted-original starts ends is e = rw is e
