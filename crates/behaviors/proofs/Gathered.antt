-- The five behaviours in one form: places gathered into runs, and what a run gives. Each of the Rust's folds is it.
use Prim.Native.Nat.{ℕ}
use mathlib.Core.Path.{◌≡◌, ◌∙◌, ap, refl, sym}
use mathlib.Core.Bool.{Bool, true, false, cond, ◌&&◌, not, beq}
use mathlib.Core.List.{List, [], ◌∷◌, ◌++◌, append_assoc, append-nil, map}
use native.Mathlib.Omega.{arith}
use mathlib.Mathlib.Data.Bool.Basic.{and_intro, and_elim_right}
use borrow.Author.Tests.{not-true}
use Rattle.buffers.proofs.Cases.{true-or-false, clash}
use Rattle.pattern.specs.declared.Place.{Place}
use Rattle.pattern.specs.Places.{fits_at, covers_from}
use Rattle.pattern.proofs.Places.{Span, fits_on, covers-first, covers-rest, covers-span}
use Rattle.behaviors.specs.declared.SplitDelimiterBehavior.{SplitDelimiterBehavior}
use Rattle.behaviors.specs.declared.SplitDelimiterBehavior.TheVariants.{Removed, Isolated, MergedWithPrevious, MergedWithNext, Contiguous}
use Rattle.behaviors.specs.declared.EmptyPieces.{EmptyPieces}
use Rattle.behaviors.specs.declared.EmptyPieces.TheVariants.{Kept, Dropped}
use Rattle.behaviors.specs.Splits.{unremoved, spanning, end_moved, folded, first_matched, start_moved, folded_back, splits, is_dropped, is_piece, remaining, pieces, SplitsCover}
use Rattle.behaviors.specs.Joining.{joins, beginnings, beginnings_after, ends, starts_of, ends_of, unmatched, drops_matches, PiecesJoined, PiecesUnmatched}
use Rattle.behaviors.specs.Runs.{onward_if, extended_run, is_kept_run, over, piece_if, runs_from}

-- a run that takes one more place
abbrev drawn : Place → Place → Place
drawn run p = record { start = run.start; end = p.end; matched = p.matched }

-- a run and the places after it, gathered by a test on the flags of two neighbours
unfoldable pub gathered : (Bool → Bool → Bool) → Place → List Place → List Place
gathered joined run [] = unremoved run ∷ []
gathered joined run (p ∷ ps) =
    cond (joined run.matched p.matched) (gathered joined (drawn run p) ps) (unremoved run ∷ gathered joined p ps)

-- THE FOLD FROM THE LEFT
end_moved_lem : (acc : List Place) (q p : Place) → end_moved (acc ++ (q ∷ [])) p ≡ acc ++ (spanning q p ∷ [])
unfolding end_moved
end_moved_lem [] q p = refl
end_moved_lem (a ∷ []) q p = refl
end_moved_lem (a ∷ b ∷ acc) q p = ap (◌∷◌ a) (end_moved_lem (b ∷ acc) q p)

folded-gathered : (test : Bool → Bool → Bool) (acc : List Place) (run : Place) (ps : List Place) → folded test (acc ++ (unremoved run ∷ [])) run.matched ps ≡ acc ++ gathered (λ before now. test now before) run ps
unfolding folded gathered unremoved spanning
folded-gathered test acc run [] = refl
folded-gathered test acc run (p ∷ ps) =
    true-or-false (test p.matched run.matched)
    (λ t. rw (t, end_moved_lem acc (unremoved run) p) (folded-gathered test acc (drawn run p) ps))
    (λ f. rw f (folded-gathered test (acc ++ (unremoved run ∷ [])) p ps ∙ append_assoc acc (unremoved run ∷ []) _))

-- its first place is added whatever the test says
folded-first : (test : Bool → Bool → Bool) (p : Place) (ps : List Place) → folded test [] false (p ∷ ps) ≡ gathered (λ before now. test now before) p ps
unfolding folded end_moved
folded-first test p ps =
    true-or-false (test p.matched false)
    (λ t. rw t (folded-gathered test [] p ps))
    (λ f. rw f (folded-gathered test [] p ps))

-- THE FOLD FROM THE RIGHT
back-unmatched : (p : Place) (ps : List Place) → p.matched ≡ false → folded_back (p ∷ ps) ≡ unremoved p ∷ folded_back ps
unfolding folded_back
back-unmatched p ps f = rw f

back-gathered : (run : Place) (ps : List Place) → folded_back (run ∷ ps) ≡ gathered (λ before now. before && not now) run ps
unfolding folded_back gathered first_matched start_moved unremoved spanning
back-gathered run [] = true-or-false run.matched (λ t. rw t) (λ f. rw f)
back-gathered run (p ∷ ps) =
    true-or-false (run.matched && not p.matched)
    (λ t.
    let u : p.matched ≡ false = not-true p.matched (and_elim_right run.matched _ t) in
    rw t (ap (start_moved run) (back-unmatched p ps u) ∙ sym (back-unmatched (drawn run p) ps u) ∙ back-gathered (drawn run p) ps))
    (λ f. rw f (ap (◌∷◌ (unremoved run)) (back-gathered p ps)))

-- NEVER JOINED
map-gathered : (p : Place) (ps : List Place) → map unremoved (p ∷ ps) ≡ gathered (λ before now. false) p ps
unfolding gathered
map-gathered p [] = refl
map-gathered p (q ∷ ps) = ap (◌∷◌ (unremoved p)) (map-gathered q ps)

-- every behaviour that drops nothing gathers
pub splits-gathered : (b : SplitDelimiterBehavior) (p : Place) (ps : List Place) → drops_matches b ≡ false → splits b (p ∷ ps) ≡ gathered (joins b) p ps
unfolding splits joins drops_matches
splits-gathered Removed p ps e = clash true refl e
splits-gathered Isolated p ps e = map-gathered p ps
splits-gathered MergedWithPrevious p ps e = folded-first (λ now previous. now && not previous) p ps
splits-gathered MergedWithNext p ps e = back-gathered p ps
splits-gathered Contiguous p ps e = folded-first beq p ps

lost-removed : (b : SplitDelimiterBehavior) → drops_matches b ≡ true → b ≡ Removed
unfolding drops_matches
lost-removed Removed e = refl
lost-removed Isolated e = clash true refl (sym e)
lost-removed MergedWithPrevious e = clash true refl (sym e)
lost-removed MergedWithNext e = clash true refl (sym e)
lost-removed Contiguous e = clash true refl (sym e)

splits-lost : (b : SplitDelimiterBehavior) (ps : List Place) → drops_matches b ≡ true → splits b ps ≡ ps
unfolding splits
splits-lost b ps e = rw (lost-removed b e)

pub splits-none : (b : SplitDelimiterBehavior) → splits b [] ≡ []
unfolding splits folded folded_back
splits-none Removed = refl
splits-none Isolated = refl
splits-none MergedWithPrevious = refl
splits-none MergedWithNext = refl
splits-none Contiguous = refl

-- THE RUNS are the pieces
goes-unremoved : (e : EmptyPieces) (p : Place) → is_dropped e (unremoved p) ≡ is_dropped e p
unfolding is_dropped unremoved
goes-unremoved Kept p = refl
goes-unremoved Dropped p = refl

pub first-remains : (e : EmptyPieces) (run : Place) (ps : List Place) → remaining e (unremoved run ∷ ps) ≡ piece_if (not (is_dropped e run)) run ++ remaining e ps
unfolding remaining is_piece piece_if unremoved
first-remains e run ps =
    rw (goes-unremoved e run) (true-or-false (not (is_dropped e run)) (λ t. rw t) (λ f. rw f))

stays-kept : (b : SplitDelimiterBehavior) (e : EmptyPieces) (run : Place) → drops_matches b ≡ false → is_kept_run b e run ≡ not (is_dropped e run)
unfolding is_kept_run
stays-kept b e run l = rw l

runs-gathered : (b : SplitDelimiterBehavior) (e : EmptyPieces) (run : Place) (ps : List Place) → drops_matches b ≡ false → runs_from b e run ps ≡ remaining e (gathered (joins b) run ps)
unfolding runs_from gathered over extended_run onward_if remaining piece_if
runs-gathered b e run [] l =
    ap (λ (t : Bool). piece_if t run) (stays-kept b e run l) ∙ sym (first-remains e run [] ∙ append-nil (piece_if (not (is_dropped e run)) run))
runs-gathered b e run (p ∷ ps) l =
    true-or-false (joins b run.matched p.matched)
    (λ t. rw t (runs-gathered b e (drawn run p) ps l))
    (λ f. rw (f, stays-kept b e run l, runs-gathered b e p ps l) (sym (first-remains e run (gathered (joins b) p ps))))

-- Removed: each place is a run of its own, and a matched one gives nothing
place-remains : (e : EmptyPieces) (run : Place) (ps : List Place) → remaining e (run ∷ ps) ≡ piece_if (is_kept_run Removed e run) run ++ remaining e ps
unfolding remaining is_piece piece_if is_kept_run drops_matches unremoved
place-remains e run ps =
    true-or-false run.matched
    (λ t. rw t)
    (λ f. true-or-false (is_dropped e run) (λ t. rw (t, f)) (λ u. rw (u, f)))

runs-removed : (e : EmptyPieces) (run : Place) (ps : List Place) → runs_from Removed e run ps ≡ remaining e (run ∷ ps)
unfolding runs_from over extended_run onward_if joins remaining piece_if
runs-removed e run [] = sym (place-remains e run [] ∙ append-nil (piece_if (is_kept_run Removed e run) run))
runs-removed e run (p ∷ ps) = rw (runs-removed e p ps) (sym (place-remains e run (p ∷ ps)))

pub runs-pieces : (b : SplitDelimiterBehavior) (e : EmptyPieces) (p : Place) (ps : List Place) → runs_from b e p ps ≡ pieces b e (p ∷ ps)
unfolding pieces
runs-pieces b e p ps =
    true-or-false (drops_matches b)
    (λ t. rw (splits-lost b (p ∷ ps) t, lost-removed b t) (runs-removed e p ps))
    (λ f. rw (splits-gathered b p ps f) (runs-gathered b e p ps f))

pub pieces_none : (b : SplitDelimiterBehavior) (e : EmptyPieces) → pieces b e [] ≡ []
unfolding pieces remaining
pieces_none b e = rw (splits-none b)

-- THE CLAIMS
remaining-gathered : (joined : Bool → Bool → Bool) (run : Place) (ps : List Place) → remaining Kept (gathered joined run ps) ≡ gathered joined run ps
unfolding remaining gathered is_piece is_dropped unremoved
remaining-gathered joined run [] = refl
remaining-gathered joined run (p ∷ ps) =
    true-or-false (joined run.matched p.matched)
    (λ t. rw t (remaining-gathered joined (drawn run p) ps))
    (λ f. rw f (ap (◌∷◌ (unremoved run)) (remaining-gathered joined p ps)))

begins-gathered : (joined : Bool → Bool → Bool) (run : Place) (ps : List Place) → starts_of (gathered joined run ps) ≡ run.start.0 ∷ beginnings_after joined run.matched ps
unfolding gathered beginnings_after unremoved
begins-gathered joined run [] = refl
begins-gathered joined run (p ∷ ps) =
    true-or-false (joined run.matched p.matched)
    (λ t. rw t (begins-gathered joined (drawn run p) ps))
    (λ f. rw f (ap (◌∷◌ run.start.0) (begins-gathered joined p ps)))

ends-drawn : (joined : Bool → Bool → Bool) (run p : Place) (ps : List Place) → ends joined (drawn run p ∷ ps) ≡ ends joined (p ∷ ps)
unfolding ends
ends-drawn joined run p [] = refl
ends-drawn joined run p (q ∷ ps) = refl

ends-gathered : (joined : Bool → Bool → Bool) (run : Place) (ps : List Place) → ends_of (gathered joined run ps) ≡ ends joined (run ∷ ps)
unfolding gathered ends unremoved
ends-gathered joined run [] = refl
ends-gathered joined run (p ∷ ps) =
    true-or-false (joined run.matched p.matched)
    (λ t. rw t (ends-gathered joined (drawn run p) ps ∙ ends-drawn joined run p ps))
    (λ f. rw f (ap (◌∷◌ run.end.0) (ends-gathered joined p ps)))

pub pieces-joined : PiecesJoined
unfolding pieces beginnings ends remaining
pieces-joined b [] l = (rw (splits-none b), rw (splits-none b))
pieces-joined b (p ∷ ps) l =
    let is : remaining Kept (splits b (p ∷ ps)) ≡ gathered (joins b) p ps = ap (remaining Kept) (splits-gathered b p ps l) ∙ remaining-gathered (joins b) p ps in
    (ap starts_of is ∙ begins-gathered (joins b) p ps, ap ends_of is ∙ ends-gathered (joins b) p ps)

pub pieces-unmatched : PiecesUnmatched
unfolding pieces splits remaining is_piece is_dropped unmatched
pieces-unmatched [] = refl
pieces-unmatched (p ∷ ps) =
    true-or-false p.matched
    (λ t. rw t (pieces-unmatched ps))
    (λ f. rw f (ap (◌∷◌ (record { start = p.start; end = p.end; matched = false })) (pieces-unmatched ps)))

-- a run with one more place covers what both cover
drawn-covers : (text : List ℕ) (at : ℕ) (run p : Place) (ps : List Place) → covers_from text at (run ∷ p ∷ ps) ≡ true → covers_from text at (drawn run p ∷ ps) ≡ true
unfolding covers_from
drawn-covers text at run p ps c =
    let first : Span text at run = covers-span text at run (p ∷ ps) c in
    let rest = covers-rest text at run (p ∷ ps) c in
    let next : Span text run.end.0 p = covers-span text run.end.0 p ps rest in
    and_intro (sym (fits_on text at (drawn run p) first.from (omega (arith, first.from, first.onward, next.onward)) (sym next.stands))) (covers-rest text run.end.0 p ps rest)

fits-unremoved : (text : List ℕ) (at : ℕ) (p : Place) → fits_at text at (unremoved p) ≡ fits_at text at p
unfolding fits_at unremoved
fits-unremoved text at p = refl

covers-gathered : (text : List ℕ) (at : ℕ) (joined : Bool → Bool → Bool) (run : Place) (ps : List Place) → covers_from text at (run ∷ ps) ≡ true → covers_from text at (gathered joined run ps) ≡ true
unfolding gathered covers_from unremoved
covers-gathered text at joined run [] c = and_intro (fits-unremoved text at run ∙ covers-first text at run [] c) (covers-rest text at run [] c)
covers-gathered text at joined run (p ∷ ps) c =
    true-or-false (joined run.matched p.matched)
    (λ t. rw t (covers-gathered text at joined (drawn run p) ps (drawn-covers text at run p ps c)))
    (λ f. rw f (and_intro (fits-unremoved text at run ∙ covers-first text at run (p ∷ ps) c) (covers-gathered text run.end.0 joined p ps (covers-rest text at run (p ∷ ps) c))))

pub splits-cover : SplitsCover
splits-cover text at b [] c = rw (splits-none b) c
splits-cover text at b (p ∷ ps) c =
    true-or-false (drops_matches b)
    (λ t. rw (splits-lost b (p ∷ ps) t) c)
    (λ f. rw (splits-gathered b p ps f) (covers-gathered text at (joins b) p ps c))
