-- Laws of `validRange`, `unplaced` and `slice_of`, case by case as the code comes to them.
use Prim.Native.Nat.{ℕ, ◌+◌, ◌≤◌, ◌<◌}
use mathlib.Core.Path.{◌≡◌}
use mathlib.Core.Bool.{Bool, false, cond, ◌&&◌, ◌||◌, or-true}
use mathlib.Core.List.{List}
use native.Mathlib.Omega.{arith}
use borrow.Author.Tests.{lt-ltb, le-ltb}
use Rattle.std.specs.Prelude.{Result, Ok, Err}
use Rattle.utf8.specs.Formed.{boundary}
use Rattle.note.specs.declared.OriginalByte.{OriginalByte}
use Rattle.note.specs.declared.NormalizedByte.{NormalizedByte}
use Rattle.note.specs.declared.Refusal.{Refusal}
use Rattle.note.specs.declared.Refusal.TheVariants.{Missing}
use Rattle.convert.specs.declared.Range.{Range}
use Rattle.convert.specs.declared.Range.TheVariants.{Original, Normalized}
use Rattle.convert.specs.Converting.{start_of, end_of, missing}
use Rattle.slice.specs.Slicing.{valid_range, slice_of, unplaced}
use Rattle.slice.specs.Writing.{Shiftable}
use Rattle.slice.specs.declared.NoteSlice.{NoteSlice}

module _ (original normalized : List ℕ) {range : Range} {x y : ℕ} {t u : Bool} where
  pub valid-original : {a b : OriginalByte} → range ≡ Original a b → x ≡ start_of range → y ≡ end_of range → t ≡ boundary original x → u ≡ boundary original y → (t && u) ≡ valid_range original normalized range
  unfolding valid_range
  valid-original is p q f g = rw (f, g, p, q, is)

  pub valid-normalized : {a b : NormalizedByte} → range ≡ Normalized a b → x ≡ start_of range → y ≡ end_of range → t ≡ boundary normalized x → u ≡ boundary normalized y → (t && u) ≡ valid_range original normalized range
  unfolding valid_range
  valid-normalized is p q f g = rw (f, g, p, q, is)

abbrev placed_or : Result Range Refusal → Result Range Refusal → ℕ → ℕ → Result NoteSlice Refusal
placed_or o m shift size = cond (unplaced o m size) (Err Missing) (Ok (slice_of o m shift))

-- the shift and what it grows by, both within a limit
pub shifted : {most shift f : ℕ} {o : Result Range Refusal} {range : Range} → Shiftable most o shift → o ≡ Ok range → f ≡ start_of range → shift + f ≤ most + most
shifted {most = most} {range = range} s is e =
    let near : start_of range ≤ most = rw is at s.near in
    omega (arith, s.low)

module _ (o m : Result Range Refusal) (shift size : ℕ) where
  pub no-original : {k : Refusal} → o ≡ Err k → Err Missing ≡ placed_or o m shift size
  unfolding unplaced
  no-original e = rw e

  pub no-normalized : {k : Refusal} → m ≡ Err k → Err Missing ≡ placed_or o m shift size
  unfolding unplaced
  no-normalized e = rw (e, or-true (missing o))

  module _ {right : Range} {end : ℕ} (is : m ≡ Ok right) (at : end ≡ end_of right) where
    pub past-text : size < end → Err Missing ≡ placed_or o m shift size
    unfolding unplaced
    past-text h = rw (is, ← at, lt-ltb size end h, or-true (missing o || false))

    pub both-placed : {left : Range} {a b c d f : ℕ} → o ≡ Ok left → end ≤ size → a ≡ start_of left → b ≡ end_of left → c ≡ start_of right → d ≡ end_of right → f ≡ start_of left
        → Ok (record { original_start = record { 0 = a }; original_end = record { 0 = b }; normalized_start = record { 0 = c }; normalized_end = record { 0 = d }; original_shift = shift + f }) ≡ placed_or o m shift size
    unfolding unplaced slice_of
    both-placed e h pa pb pc pd pf = rw (is, e, le-ltb size (end_of right) (rw at at h), pa, pb, pc, pd, pf)
