-- RULES 11.2, 11.3: the five behaviours as the Rust has them (`NormalizedString::split`): a list of places becomes
-- another one, whose flag says that a place is removed; what is not removed is a piece.
use Rattle.std.specs.Prelude.{ℕ, ◌≡◌, Bool, true, false, cond, ◌&&◌, not, List, [], ◌∷◌, ◌++◌, map, eqb}
use Rattle.std.specs.Bool.{beq}
use Rattle.pattern.specs.declared.Place.{Place}
use Rattle.pattern.specs.Places.{covers_from}
use Rattle.behaviors.specs.declared.SplitDelimiterBehavior.{SplitDelimiterBehavior}
use Rattle.behaviors.specs.declared.SplitDelimiterBehavior.TheVariants.{
  Removed,
  Isolated,
  MergedWithPrevious,
  MergedWithNext,
  Contiguous,
}
use Rattle.behaviors.specs.declared.EmptyPieces.{EmptyPieces}
use Rattle.behaviors.specs.declared.EmptyPieces.TheVariants.{Kept, Dropped}

-- a place that is not removed (Rust: `(offsets, false)`)
unfoldable pub unremoved : Place → Place
unremoved p = record { start = p.start; end = p.end; matched = false }

-- from the start of one to the end of another
unfoldable pub spanning : Place → Place → Place
spanning p q = record { start = p.start; end = q.end; matched = false }

-- the last place so far takes the end of p; where there is none p is the first (Rust: `acc.last_mut()`, `*end = ..`)
unfoldable pub end_moved : List Place → Place → List Place
end_moved [] p = unremoved p ∷ []
end_moved (q ∷ []) p = spanning q p ∷ []
end_moved (q ∷ r ∷ acc) p = q ∷ end_moved (r ∷ acc) p

-- the Rust's fold from the left over the places so far, `acc`, and `previous_match`: where the test holds the last
-- place so far takes the end, else the place is added
unfoldable pub folded : (Bool → Bool → Bool) → List Place → Bool → List Place → List Place
folded test acc previous [] = acc
folded test acc previous (p ∷ ps) =
    folded test (cond (test p.matched previous) (end_moved acc p) (acc ++ (unremoved p ∷ []))) p.matched ps

-- `previous_match` of the fold from the right: whether the place after matched
unfoldable pub first_matched : List Place → Bool
first_matched [] = false
first_matched (p ∷ ps) = p.matched

-- the first place after takes the start of p; where there is none p is the last (Rust: `*start = ..`)
unfoldable pub start_moved : Place → List Place → List Place
start_moved p [] = unremoved p ∷ []
start_moved p (q ∷ acc) = spanning p q ∷ acc

-- the Rust's fold from the right, which it reverses at the end
unfoldable pub folded_back : List Place → List Place
folded_back [] = []
folded_back (p ∷ ps) =
    cond (p.matched && not (first_matched ps)) (start_moved p (folded_back ps)) (unremoved p ∷ folded_back ps)

-- what the places become under a behaviour (Rust: `splits`)
unfoldable pub splits : SplitDelimiterBehavior → List Place → List Place
splits Removed ps = ps
splits Isolated ps = map unremoved ps
splits MergedWithPrevious ps = folded (λ now previous. now && not previous) [] false ps
splits MergedWithNext ps = folded_back ps
splits Contiguous ps = folded beq [] false ps

-- a place is a piece where it is not removed and, where empty pieces are dropped, has a byte
unfoldable pub is_dropped : EmptyPieces → Place → Bool
is_dropped Kept p = false
is_dropped Dropped p = eqb p.start.0 p.end.0

unfoldable pub is_piece : EmptyPieces → Place → Bool
is_piece empty p = not p.matched && not (is_dropped empty p)

-- the pieces among places
unfoldable pub remaining : EmptyPieces → List Place → List Place
remaining empty [] = []
remaining empty (p ∷ ps) = cond (is_piece empty p) (p ∷ remaining empty ps) (remaining empty ps)

-- THE PIECES of a list of places
unfoldable pub pieces : SplitDelimiterBehavior → EmptyPieces → List Place → List Place
pieces behavior empty ps = remaining empty (splits behavior ps)

-- CLAIM: where places cover a text, so does what they become under any behaviour: in order, from boundary to boundary.
abbrev pub SplitsCover : Type 0
SplitsCover =
    (text : List ℕ) (at : ℕ) (behavior : SplitDelimiterBehavior) (ps : List Place)
    → covers_from text at ps ≡ true → covers_from text at (splits behavior ps) ≡ true
