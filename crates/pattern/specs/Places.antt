-- RULES 9: when places cover a text.
use Rattle.std.specs.Prelude.{ℕ, Bool, ◌&&◌, not, List, [], ◌∷◌, leb, eqb, length}
use Rattle.utf8.specs.Formed.{boundary}
use Rattle.note.specs.declared.Refusal.{Refusal}
use Rattle.note.specs.declared.Refusal.TheVariants.{BadMatches}
use Rattle.note.specs.Refusals.{none, meets}
use Rattle.pattern.specs.declared.Place.{Place}
use Rattle.pattern.specs.Entries.{places_of, whole_list}

-- a place that begins at `at`, where the last one ended, and ends there or later, on a boundary of the text
unfoldable pub fits_at : List ℕ → ℕ → Place → Bool
fits_at text at p = eqb p.start.0 at && leb p.start.0 p.end.0 && boundary text p.end.0

-- from `at` on each place begins where the last one ended, and the last one ends with the text
unfoldable pub covers_from : List ℕ → ℕ → List Place → Bool
covers_from text at [] = eqb at (length text)
covers_from text at (p ∷ ps) = fits_at text at p && covers_from text p.end.0 ps

-- the places of a list cover the text from its beginning, and the list has nothing else
unfoldable pub covers : List ℕ → List ℕ → Bool
covers text l = whole_list l && covers_from text 0 (places_of l)

-- which refusal condition a list meets beside a text
abbrev pub list_faults : List ℕ → List ℕ → Refusal → Bool
list_faults text l = meets BadMatches (not (covers text l)) none
