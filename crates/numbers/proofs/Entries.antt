-- Laws of `readFrom`: from one entry to the next, and the list's end.
use Prim.Native.Nat.{ℕ, zero, suc, ◌+◌, ◌-◌, ◌≤◌, ◌<◌}
use mathlib.Core.Path.{◌≡◌, ◌∙◌, ap, refl}
use mathlib.Core.List.{List, [], ◌∷◌}
use native.Mathlib.Omega.{arith}
use lib.ListN.{length, drop, drop_of_length-le}
use lib.Seq.{drop-cons, drop-drop}
use Rattle.numbers.specs.Entries.{read_from}

module _ {A : Type 0} (size : List ℕ → ℕ) (joined : List ℕ → A → A) (none : A) where
  skip : (k : ℕ) (l : List ℕ) → read_from size joined none k l ≡ read_from size joined none 0 (drop k l)
  unfolding read_from
  skip zero l = refl
  skip (suc k) [] = refl
  skip (suc k) (b ∷ l) = skip k l

  cons : (l : List ℕ) (i : ℕ) → i < length l
      → read_from size joined none 0 (drop i l) ≡ joined (drop i l) (read_from size joined none (size (drop i l) - 1) (drop (suc i) l))
  unfolding read_from
  cons l i h = ap (read_from size joined none 0) (drop-cons l i 0 h) ∙ rw (← drop-cons l i 0 h)

  -- the entry at i has so many bytes, and the next one begins after them
  pub read_step : (l : List ℕ) {i w next : ℕ} → i < length l → size (drop i l) ≡ w → 1 ≤ w → next ≡ i + w
      → read_from size joined none 0 (drop i l) ≡ joined (drop i l) (read_from size joined none 0 (drop next l))
  read_step l {i} {w} {next} h is some ends =
      let far : suc i + (w - 1) ≡ next = omega arith in
      cons l i h ∙ rw (is, skip (w - 1) (drop (suc i) l), drop-drop (w - 1) (suc i) l, far)

  pub read-end : (l : List ℕ) {i : ℕ} → length l ≤ i → read_from size joined none 0 (drop i l) ≡ none
  unfolding read_from
  read-end l h = rw (drop_of_length-le l h)
