-- What the inner calls ask of the columns; and the walk in blocks: when one step, at the last of several alignments,
-- finds the places that a step at each of them finds.
use Rattle.std.specs.Prelude.{ℕ, suc, ◌≤◌, ◌<◌, ◌≡◌, Bool, true, List, ◌⊎◌, ltb, length, get_or}
use Rattle.convert.specs.declared.Places.{Places}
use Rattle.convert.specs.declared.Places.TheVariants.{Neither, Last, Both}

-- one start for each end, no more than a text has bytes, and neither column ever falls
pub record OrderedColumns (most : ℕ) (starts ends : List ℕ) : Type 0 where
  pub paired : length starts ≡ length ends
  pub few : length ends ≤ most
  pub starts_forward : (i : ℕ) → suc i < length ends → get_or starts i 0 ≤ get_or starts (suc i) 0
  pub ends_forward : (i : ℕ) → suc i < length ends → get_or ends i 0 ≤ get_or ends (suc i) 0

-- a first place is found already, or none is at an alignment that starts at s or before
unfoldable pub settled : ℕ → ℕ → Places → Bool
settled from s (Both first last) = true
settled from s (Last last) = ltb s from
settled from s Neither = ltb s from

-- the alignments from i up to j, which one step at j walks where neither column ever falls: all of them end by the
-- range's end, and there is but one, or none of them is a first place
pub record Block (starts ends : List ℕ) (from to : ℕ) (found : Places) (i j : ℕ) : Type 0 where
  pub on : i ≤ j
  pub inside : j < length ends
  pub walks : get_or ends j 0 ≤ to
  pub single_or_settled : (j ≡ i) ⊎ (settled from (get_or starts j 0) found ≡ true)
