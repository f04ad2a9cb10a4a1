-- Laws of the tests on one run: by the cases of the code.
use Prim.Native.Nat.{◌+◌, ◌-◌, ◌*◌, ◌<◌}
use mathlib.Core.Path.{◌≡◌, ◌∙◌, refl}
use mathlib.Core.Bool.{Bool, true, false, ◌&&◌, not, beq}
use mathlib.Core.List.{List, [], ◌∷◌}
use native.Mathlib.Omega.{arith}
use mir.Val.{bool_byte}
use lib.Dec.{eqb}
use lib.ListN.{get_or}
use Rattle.pattern.specs.declared.Place.{Place}
use Rattle.behaviors.specs.declared.SplitDelimiterBehavior.{SplitDelimiterBehavior}
use Rattle.behaviors.specs.declared.SplitDelimiterBehavior.TheVariants.{Removed, Isolated, MergedWithPrevious, MergedWithNext, Contiguous}
use Rattle.behaviors.specs.declared.EmptyPieces.{EmptyPieces}
use Rattle.behaviors.specs.declared.EmptyPieces.TheVariants.{Kept, Dropped}
use Rattle.behaviors.specs.declared.Sizes.{Sizes}
use Rattle.behaviors.specs.Splits.{unremoved, is_dropped}
use Rattle.behaviors.specs.Joining.{joins, drops_matches}
use Rattle.behaviors.specs.Runs.{onward_if, extended_run, join_table, joined_by, is_kept_run, over, piece_if, total_length, sizes_with}

module _ (b : SplitDelimiterBehavior) (before now : Bool) where
  pub joins-removed : b ≡ Removed → false ≡ joins b before now
  unfolding joins
  joins-removed e = rw e

  pub joins-isolated : b ≡ Isolated → false ≡ joins b before now
  unfolding joins
  joins-isolated e = rw e

  pub joins-previous : b ≡ MergedWithPrevious → (now && not before) ≡ joins b before now
  unfolding joins
  joins-previous e = rw e

  pub joins-next : b ≡ MergedWithNext → (before && not now) ≡ joins b before now
  unfolding joins
  joins-next e = rw e

  pub joins-same : b ≡ Contiguous → beq now before ≡ joins b before now
  unfolding joins
  joins-same e = rw e

pub loses-as : (b c : SplitDelimiterBehavior) → b ≡ c → drops_matches c ≡ drops_matches b
loses-as b c e = rw e

pub goes_kept : (e : EmptyPieces) (run : Place) → e ≡ Kept → false ≡ is_dropped e run
unfolding is_dropped
goes_kept e run is = rw is

pub goes-empty : (e : EmptyPieces) (run : Place) → e ≡ Dropped → eqb run.start.0 run.end.0 ≡ is_dropped e run
unfolding is_dropped
goes-empty e run is = rw is

module _ (b : SplitDelimiterBehavior) (e : EmptyPieces) (run : Place) where
  pub stays_by : {l g : Bool} → l ≡ drops_matches b → g ≡ is_dropped e run → (not (l && run.matched) && not g) ≡ is_kept_run b e run
  unfolding is_kept_run
  stays_by is at = rw (is, at)

  pub over_by : (p : Place) {j s : Bool} → j ≡ joins b run.matched p.matched → s ≡ is_kept_run b e run → (not j && s) ≡ over b e run p
  unfolding over
  over_by p is at = rw (is, at)

pub onward-by : (b : SplitDelimiterBehavior) (run p : Place) {j : Bool} {r : Place} → j ≡ joins b run.matched p.matched → r ≡ onward_if j run p → r ≡ extended_run b run p
unfolding extended_run
onward-by b run p is at = at ∙ rw is

-- two flags are an index of the table
pub flags-small : (before now : Bool) → bool_byte before * 2 + bool_byte now < 4
flags-small true true = omega arith
flags-small true false = omega arith
flags-small false true = omega arith
flags-small false false = omega arith

pub flags-read : (table : List Bool) (before now : Bool) → get_or table (bool_byte before * 2 + bool_byte now) false ≡ joined_by table before now
unfolding joined_by
flags-read table true true = refl
flags-read table true false = refl
flags-read table false true = refl
flags-read table false false = refl

pub table-by : (b : SplitDelimiterBehavior) {w x y z : Bool} → w ≡ joins b false false → x ≡ joins b false true → y ≡ joins b true false → z ≡ joins b true true → ◌≡◌ {A = List Bool} (w ∷ x ∷ y ∷ z ∷ []) (join_table b)
unfolding join_table
table-by b w x y z = rw (w, x, y, z)

-- the table's answer is the behaviour's
pub joined_by_lem : (b : SplitDelimiterBehavior) (before now : Bool) {table : List Bool} {j : Bool} → table ≡ join_table b → j ≡ joined_by table before now → j ≡ joins b before now
unfolding join_table joined_by
joined_by_lem b true true e is = is ∙ rw e
joined_by_lem b true false e is = is ∙ rw e
joined_by_lem b false true e is = is ∙ rw e
joined_by_lem b false false e is = is ∙ rw e

module _ (run p : Place) {j : Bool} where
  pub drawn-out : j ≡ true → ◌≡◌ {A = Place} (record { start = run.start; end = p.end; matched = p.matched }) (onward_if j run p)
  unfolding onward_if
  drawn-out t = rw t

  pub begun-anew : j ≡ false → p ≡ onward_if j run p
  unfolding onward_if
  begun-anew f = rw f

module _ (s : Sizes) (met : Bool) (run : Place) where
  pub one-counted : met ≡ true → ◌≡◌ {A = Sizes} (record { pieces = s.pieces + 1; bytes = s.bytes + (run.end.0 - run.start.0) }) (sizes_with s (piece_if met run))
  unfolding sizes_with total_length piece_if unremoved
  one-counted t = rw t (let z : s.bytes + (run.end.0 - run.start.0) ≡ s.bytes + (run.end.0 - run.start.0 + 0) = omega arith in λ i. record { pieces = s.pieces + 1; bytes = z i })

  pub none-counted : met ≡ false → s ≡ sizes_with s (piece_if met run)
  unfolding sizes_with total_length piece_if
  none-counted f =
      rw f
      (let a : s.pieces ≡ s.pieces + 0 = omega arith in
      let z : s.bytes ≡ s.bytes + 0 = omega arith in λ i. record { pieces = a i; bytes = z i })
