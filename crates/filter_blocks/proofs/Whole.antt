-- A filter that keeps all: what is chosen is everything.
use Prim.Native.Nat.{ℕ, ◌+◌, ◌-◌, ◌≤◌, ◌<◌}
use mathlib.Core.Path.{◌≡◌, ap, refl, sym}
use mathlib.Core.Bool.{Bool, true, false, ◌&&◌, not}
use mathlib.Core.List.{List, [], ◌∷◌}
use native.Mathlib.Omega.{arith}
use lib.Dec.{eqb}
use lib.ListN.{length, get_or, drop_of_length-le}
use lib.Seq.{take-length}
use borrow.Author.Tests.{not-true}
use Rattle.buffers.specs.Every.{every_below}
use Rattle.buffers.proofs.Cases.{le-or-lt}
use Rattle.buffers.proofs.Every.{every-suc, every-at}
use Rattle.utf8.specs.Chars.{lead_at, leads}
use Rattle.utf8.proofs.Chars.{chars-leads, lead-le-one}
use Rattle.filter_blocks.specs.Chosen.{chosen, all_kept, FlagEach}
use Rattle.filter_blocks.proofs.Chosen.{leads-low}

-- the flags before i
pub record Keeping (flags : List ℕ) (ok : Bool) (i : ℕ) : Type 0 where
  pub most : i ≤ length flags
  pub so_far : ok ≡ every_below i (λ k. not (eqb (get_or flags k 0) 0))

pub none-keeping : {flags : List ℕ} → Keeping flags true 0
unfolding every_below
none-keeping = record { most = omega arith; so_far = refl }

pub one-keeping : {flags : List ℕ} {ok : Bool} {i : ℕ} → Keeping flags ok i → i < length flags → Keeping flags (ok && not (eqb (get_or flags i 0) 0)) (i + 1)
one-keeping {flags} {ok} {i} k h =
    record { most = omega arith; so_far = rw k.so_far (sym (every-suc i (λ j. not (eqb (get_or flags j 0) 0)))) }

pub all-keeping : {flags : List ℕ} {ok : Bool} {i : ℕ} → Keeping flags ok i → length flags ≤ i → ok ≡ all_kept flags
unfolding all_kept
all-keeping {flags} {ok} {i} k past = let end : i ≡ length flags = omega (arith, k.most) in rw end at k.so_far

each-kept : (flags : List ℕ) → all_kept flags ≡ true → (i : ℕ) → i < length flags → eqb (get_or flags i 0) 0 ≡ false
unfolding all_kept
each-kept flags all i h = not-true (eqb (get_or flags i 0) 0) (every-at (length flags) (λ k. not (eqb (get_or flags k 0) 0)) all i h)

module _ (flags : List ℕ) (all : all_kept flags ≡ true) (some : 0 < length flags) where
  chosen-all : (i : ℕ) (s xs : List ℕ) → length xs ≡ length s → i + leads s ≤ length flags → chosen flags i s xs ≡ xs
  unfolding chosen leads
  chosen-all i [] [] same few = refl
  chosen-all i [] (x ∷ xs) same few = absurd (omega arith)
  chosen-all i (b ∷ s) [] same few = absurd (omega arith)
  chosen-all i (b ∷ s) (x ∷ xs) same few =
      rw (each-kept flags all (i + lead_at b - 1) (omega (arith, lead-le-one b))) (ap (◌∷◌ x) (chosen-all (i + lead_at b) s xs (omega arith) (omega arith)))

module _ {s flags : List ℕ} (f : FlagEach s flags) (all : all_kept flags ≡ true) where
  pub all-chosen : (xs : List ℕ) → length xs ≡ length s → chosen flags 0 s xs ≡ xs
  unfolding chosen
  all-chosen xs same =
      le-or-lt (length flags) 0
      (λ none.
      let empty : s ≡ [] = drop_of_length-le s {i = 0} (le-or-lt (length s) 0 (λ z. z) (λ more. absurd (omega (arith, leads-low f (length s) more (omega arith), rw (take-length s) at (leads-low f (length s) more (omega arith)), f.counted, chars-leads s f.formed)))) in
      let nothing : xs ≡ [] = drop_of_length-le xs {i = 0} (omega (arith, same, ap length empty)) in
      rw (empty, nothing))
      (λ some. chosen-all flags all some 0 s xs same (omega (arith, f.counted, chars-leads s f.formed)))
