-- RULES 11.4: the behaviours in plain words, without a fold: which places belong together.
use Rattle.std.specs.Prelude.{ℕ, ◌≡◌, Bool, true, false, cond, ◌&&◌, not, List, [], ◌∷◌, map}
use Rattle.std.specs.Bool.{beq}
use Rattle.pattern.specs.declared.Place.{Place}
use Rattle.behaviors.specs.declared.SplitDelimiterBehavior.{SplitDelimiterBehavior}
use Rattle.behaviors.specs.declared.SplitDelimiterBehavior.TheVariants.{
  Removed,
  Isolated,
  MergedWithPrevious,
  MergedWithNext,
  Contiguous,
}
use Rattle.behaviors.specs.declared.EmptyPieces.TheVariants.{Kept}
use Rattle.behaviors.specs.Splits.{pieces}

-- whether a place belongs to one piece with the place straight before it, by whether that one and this one matched
unfoldable pub joins : SplitDelimiterBehavior → Bool → Bool → Bool
-- every place is a piece of its own
joins Removed before now = false
joins Isolated before now = false
-- a matched place belongs to the unmatched one straight before it
joins MergedWithPrevious before now = now && not before
-- and here to the unmatched one straight after it
joins MergedWithNext before now = before && not now
-- places of one kind belong together
joins Contiguous before now = beq now before

-- where pieces begin: at the first place, and at each that does not belong to the one before it
unfoldable pub beginnings_after : (Bool → Bool → Bool) → Bool → List Place → List ℕ
beginnings_after joined before [] = []
beginnings_after joined before (p ∷ ps) =
    cond (joined before p.matched) (beginnings_after joined p.matched ps)
    (p.start.0 ∷ beginnings_after joined p.matched ps)

unfoldable pub beginnings : (Bool → Bool → Bool) → List Place → List ℕ
beginnings joined [] = []
beginnings joined (p ∷ ps) = p.start.0 ∷ beginnings_after joined p.matched ps

-- where pieces end: at the last place, and at each to which the next one does not belong
unfoldable pub ends : (Bool → Bool → Bool) → List Place → List ℕ
ends joined [] = []
ends joined (p ∷ []) = p.end.0 ∷ []
ends joined (p ∷ q ∷ ps) =
    cond (joined p.matched q.matched) (ends joined (q ∷ ps)) (p.end.0 ∷ ends joined (q ∷ ps))

-- the positions at which pieces begin, and those at which they end
abbrev pub starts_of : List Place → List ℕ
starts_of ps = map (λ p. p.start.0) ps

abbrev pub ends_of : List Place → List ℕ
ends_of ps = map (λ p. p.end.0) ps

-- the unmatched places
unfoldable pub unmatched : List Place → List Place
unmatched [] = []
unmatched (p ∷ ps) = cond p.matched (unmatched ps) (p ∷ unmatched ps)

-- the behaviours that lose nothing
unfoldable pub drops_matches : SplitDelimiterBehavior → Bool
drops_matches Removed = true
drops_matches Isolated = false
drops_matches MergedWithPrevious = false
drops_matches MergedWithNext = false
drops_matches Contiguous = false

-- CLAIM: under any behaviour but Removed a piece begins at the first place and at each that does not belong to the one
-- before it, and ends at the last place and at each to which the next one does not belong. So Isolated gives every
-- place; under Contiguous a piece begins where the kind changes; under MergedWithPrevious one begins at each place but
-- a matched one straight after an unmatched one; under MergedWithNext one ends at each place but a matched one
-- straight before an unmatched one.
abbrev pub PiecesJoined : Type 0
PiecesJoined =
    (behavior : SplitDelimiterBehavior) (ps : List Place) → drops_matches behavior ≡ false
    → (starts_of (pieces behavior Kept ps) ≡ beginnings (joins behavior) ps)
    × (ends_of (pieces behavior Kept ps) ≡ ends (joins behavior) ps)

-- CLAIM: under Removed the pieces are the unmatched places, empty ones too.
abbrev pub PiecesUnmatched : Type 0
PiecesUnmatched = (ps : List Place) → pieces Removed Kept ps ≡ unmatched ps
