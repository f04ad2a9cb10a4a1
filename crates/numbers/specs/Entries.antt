-- A list of bytes that is read entry by entry.
use Rattle.std.specs.Prelude.{ℕ, zero, suc, ◌-◌, List, [], ◌∷◌}

-- what is read of a list, from an entry on that is k bytes away: `size` says how many bytes the entry at the front of a
-- list has, `joined` what is read of it and of all after it, and `none` what is read of no entry
unfoldable pub read_from : {A : Type 0} → (List ℕ → ℕ) → (List ℕ → A → A) → A → ℕ → List ℕ → A
read_from size joined none k [] = none
read_from size joined none zero (b ∷ l) = joined (b ∷ l) (read_from size joined none (size (b ∷ l) - 1) l)
read_from size joined none (suc k) (b ∷ l) = read_from size joined none k l
