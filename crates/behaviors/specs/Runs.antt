-- The working form of the pieces: places are gathered into a run, and a run that is over gives a piece or none.
use Rattle.std.specs.Prelude.{ℕ, ◌+◌, ◌-◌, ◌^◌, ◌≤◌, ◌<◌, ◌≡◌, Bool, true, false, cond, ◌&&◌, not, List, [], ◌∷◌, ◌++◌, length, get_or}
use Rattle.pattern.specs.declared.Place.{Place}
use Rattle.pattern.specs.Entries.{places_of}
use Rattle.pattern.specs.Places.{covers_from}
use Rattle.behaviors.specs.declared.SplitDelimiterBehavior.{SplitDelimiterBehavior}
use Rattle.behaviors.specs.declared.EmptyPieces.{EmptyPieces}
use Rattle.behaviors.specs.declared.Sizes.{Sizes}
use Rattle.behaviors.specs.Splits.{unremoved, is_dropped, pieces}
use Rattle.behaviors.specs.Joining.{joins, drops_matches}

-- a run is the place from its first place's start to its last one's end, with the flag of its last; it takes one more
-- place, or a new one begins
unfoldable pub onward_if : Bool → Place → Place → Place
onward_if joined run p = cond joined (record { start = run.start; end = p.end; matched = p.matched }) p

unfoldable pub extended_run : SplitDelimiterBehavior → Place → Place → Place
extended_run behavior run p = onward_if (joins behavior run.matched p.matched) run p

-- what a behaviour says of each pair of flags, and one of its answers
unfoldable pub join_table : SplitDelimiterBehavior → List Bool
join_table behavior =
    joins behavior false false ∷ joins behavior false true ∷ joins behavior true false ∷ joins behavior true true ∷ []

unfoldable pub joined_by : List Bool → Bool → Bool → Bool
joined_by table before now = get_or table (cond before 2 0 + cond now 1 0) false

-- whether a run that is over gives a piece
unfoldable pub is_kept_run : SplitDelimiterBehavior → EmptyPieces → Place → Bool
is_kept_run behavior empty run = not (drops_matches behavior && run.matched) && not (is_dropped empty run)

-- whether it is over at a place, and gives one
unfoldable pub over : SplitDelimiterBehavior → EmptyPieces → Place → Place → Bool
over behavior empty run p = not (joins behavior run.matched p.matched) && is_kept_run behavior empty run

-- a piece, where there is one
unfoldable pub piece_if : Bool → Place → List Place
piece_if met run = cond met (unremoved run ∷ []) []

-- the pieces of a run and of the places after it
unfoldable pub runs_from : SplitDelimiterBehavior → EmptyPieces → Place → List Place → List Place
runs_from behavior empty run [] = piece_if (is_kept_run behavior empty run) run
runs_from behavior empty run (p ∷ ps) =
    piece_if (over behavior empty run p) run ++ runs_from behavior empty (extended_run behavior run p) ps

-- how many bytes pieces have together
unfoldable pub total_length : List Place → ℕ
total_length [] = 0
total_length (p ∷ ps) = (p.end.0 - p.start.0) + total_length ps

-- a list whose places cover a text within a limit
pub record Listed (most : ℕ) (list : List ℕ) : Type 0 where
  pub text : List ℕ
  pub short : length text ≤ most
  pub covered : covers_from text 0 (places_of list) ≡ true

-- the pieces of a list
abbrev pub list_pieces : SplitDelimiterBehavior → EmptyPieces → List ℕ → List Place
list_pieces behavior empty list = pieces behavior empty (places_of list)

-- sizes, and those of pieces with them
unfoldable pub sizes_with : Sizes → List Place → Sizes
sizes_with s ps = record { pieces = s.pieces + length ps; bytes = s.bytes + total_length ps }

-- a run whose size can be added
pub record Addable (s : Sizes) (run : Place) : Type 0 where
  pub onward : run.start.0 ≤ run.end.0
  pub few : s.pieces + 1 < 2 ^ 64
  pub short : s.bytes + run.end.0 < 2 ^ 64
