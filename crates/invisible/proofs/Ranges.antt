-- Laws of `in_some`: the ranges of a list one after the other, and of two lists.
use Prim.Native.Nat.{ℕ}
use mathlib.Core.Path.{◌≡◌, ◌∙◌, ap, refl, sym}
use mathlib.Core.Bool.{Bool, ◌||◌, or_assoc, or-false}
use mathlib.Core.List.{List, [], ◌∷◌, ◌++◌}
use Rattle.invisible.specs.Ranges.{Codes, controls, spaces, ignorables, ranges, in_some, in_range, is_invisible}

-- the ranges one after the other, as a sum from the left
unfoldable pub summed : Bool → List Codes → ℕ → Bool
summed found [] c = found
summed found (r ∷ rs) c = summed (found || in_range r c) rs c

summed-some : (found : Bool) (rs : List Codes) (c : ℕ) → summed found rs c ≡ (found || in_some rs c)
unfolding summed in_some
summed-some found [] c = sym (or-false found)
summed-some found (r ∷ rs) c = summed-some (found || in_range r c) rs c ∙ or_assoc found (in_range r c) (in_some rs c)

pub some-summed : (r : Codes) (rs : List Codes) (c : ℕ) → summed (in_range r c) rs c ≡ in_some (r ∷ rs) c
unfolding in_some
some-summed r rs c = summed-some (in_range r c) rs c

some-append : (rs ss : List Codes) (c : ℕ) → (in_some rs c || in_some ss c) ≡ in_some (rs ++ ss) c
unfolding in_some
some-append [] ss c = refl
some-append (r ∷ rs) ss c = or_assoc (in_range r c) (in_some rs c) (in_some ss c) ∙ ap (λ (x : Bool). in_range r c || x) (some-append rs ss c)

pub any-invisible : (c : ℕ) {x y z : Bool} → x ≡ in_some controls c → y ≡ in_some spaces c → z ≡ in_some ignorables c → (x || y || z) ≡ is_invisible c
unfolding is_invisible ranges
any-invisible c is_x is_y is-z =
    rw (is_x, is_y, is-z, some-append controls spaces c) (some-append (controls ++ spaces) ignorables c)
