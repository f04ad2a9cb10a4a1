-- RULES 4.7: the conversion of a transcript range without a walk, by the number of leading alignments that end in time.
use Rattle.std.specs.Prelude.{ℕ, suc, ◌≤◌, ◌<◌, ◌≡◌, cond, List, [], ◌∷◌, leb, length, get_or, Result, Ok, Err}
use Rattle.note.specs.declared.Refusal.TheVariants.{Missing}
use Rattle.convert.specs.Converting.{in_original, in_normalized, converted}
use Rattle.convert.specs.declared.Range.{Range}
use Rattle.note.specs.declared.Refusal.{Refusal}

-- how many alignments, one after the other from the first on, have their end at `to` or before
unfoldable pub leading : List ℕ → ℕ → ℕ
leading [] to = 0
leading (e ∷ ends) to = cond (leb e to) (suc (leading ends to)) 0

-- the alignment at i starts at `from` or after it, and has a width
abbrev pub Qualifies : List ℕ → List ℕ → ℕ → ℕ → Type 0
Qualifies starts ends from i = (from ≤ get_or starts i 0) × (get_or starts i 0 ≡ get_or ends i 0 → ⊥)

-- the least i below k at which one does
pub record First (starts ends : List ℕ) (from k i : ℕ) : Type 0 where
  pub below : i < k
  pub qualifies : Qualifies starts ends from i
  pub none_before : (j : ℕ) → j < i → Qualifies starts ends from j → ⊥

-- the answer of the range from..to, by the number k of leading alignments: none at k = 0; from the first that qualifies
-- to k; and k..k where none does
pub record ByLeading (starts ends : List ℕ) (from to k : ℕ) (answer : Result Range Refusal) : Type 0 where
  pub none_leads : k ≡ 0 → answer ≡ Err Missing
  pub from_first : (i : ℕ) → First starts ends from k i → answer ≡ Ok (in_normalized i k)
  pub no_first : 0 < k → ((i : ℕ) → i < k → Qualifies starts ends from i → ⊥) → answer ≡ Ok (in_normalized k k)

-- CLAIM: a transcript range that has a byte is converted as the number of leading alignments says.
abbrev pub ConvertedByLeading : Type 0
ConvertedByLeading =
    (starts ends : List ℕ) (from to : ℕ) → length starts ≡ length ends → from < to
    → ByLeading starts ends from to (leading ends to) (converted starts ends (in_original from to))
