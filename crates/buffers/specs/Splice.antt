-- Parts of a list, and a list that is in another one's place.
use Rattle.std.specs.Prelude.{ℕ, ◌+◌, ◌-◌, ◌≡◌, List, ◌++◌, length, take, drop}

-- what is from a up to e, as `&s[a..e]` has it
abbrev pub part : {A : Type 0} → List A → ℕ → ℕ → List A
part s a e = take (e - a) (drop a s)

-- d with r in the place of as many of its elements from `at` on
unfoldable pub splice : {A : Type 0} → List A → ℕ → List A → List A
splice d at r = take at d ++ r ++ drop (at + length r) d

-- d with r in the place of its first elements: what a passed buffer holds after a result of r
unfoldable pub overlay : {A : Type 0} → List A → List A → List A
overlay r d = r ++ drop (length r) d

-- d is d₀ with r laid into it from `at` on, and `end` is where r ends
pub record Laid {A : Type 0} (r d₀ : List A) (at end : ℕ) (d : List A) : Type 0 where
  pub reach : end ≡ at + length r
  pub holds : d ≡ splice d₀ at r
