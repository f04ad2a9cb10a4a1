-- RULES 10: the blanking claim for fresh texts, in bytes alone: no alignment is named.
use Rattle.std.specs.Prelude.{ℕ, ◌-◌, ◌<◌, ◌≡◌, true, length, get_or, Ok}
use mathlib.Core.List.{List, Memᴰ}
use Rattle.utf8.specs.CharRanges.{char_start}
use Rattle.note.specs.Starting.{starting}
use Rattle.pattern.specs.declared.Place.{Place}
use Rattle.pattern.specs.Entries.{places_of}
use Rattle.replace.specs.Replacing.{Replacing}
use Rattle.replace.specs.Blanking.{Outside, Equal, published}

pub record FreshAgree (s t : List ℕ) (ps : List Place) (content : List ℕ) : Type 0 where
  -- at each position outside the matched places, the two texts have the same byte
  pub outside : (p : ℕ) → p < length s → Outside ps p → get_or s p 0 ≡ get_or t p 0
  -- where the content has a byte: the character that ends where a matched place ends, unless that is at 0, begins at
  -- the same byte in both texts, so is as long in both
  pub last-character :
      0 < length content → (q : Place) → Memᴰ q ps → q.matched ≡ true → 0 < q.end.0
      → char_start s (q.end.0 - 1) ≡ char_start t (q.end.0 - 1)

-- CLAIM: two fresh texts, one list and one content, replacing accepts the starting notes of both: the published notes
-- are equal, in every byte and alignment, exactly when the texts have the same bytes outside the matched places and,
-- unless the content is empty, characters of one length before the end of each matched place (`FreshAgree`).
abbrev pub FreshBlanking : Type 0
FreshBlanking =
    (most : ℕ) (s t list content : List ℕ) (a b : ℕ)
    (outₛ₀ startsₛ₀ endsₛ₀ outₛ startsₛ endsₛ outₜ₀ startsₜ₀ endsₜ₀ outₜ startsₜ endsₜ : List ℕ)
    → Replacing most (starting s) list content outₛ₀ startsₛ₀ endsₛ₀ (Ok a) outₛ startsₛ endsₛ
    → Replacing most (starting t) list content outₜ₀ startsₜ₀ endsₜ₀ (Ok b) outₜ startsₜ endsₜ
    → (Equal (published a outₛ startsₛ endsₛ) (published b outₜ startsₜ endsₜ) → FreshAgree s t (places_of list) content)
    × (FreshAgree s t (places_of list) content → Equal (published a outₛ startsₛ endsₛ) (published b outₜ startsₜ endsₜ))
