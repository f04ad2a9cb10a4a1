-- The offsets in plain words: by the alignments of a piece's first and last byte; by its own start and end.
use Prim.Native.Nat.{ℕ, ◌+◌, ◌-◌}
use mathlib.Core.Path.{◌≡◌, ◌∙◌, ap, refl, sym}
use mathlib.Core.Bool.{Bool, true, false, ◌&&◌, not}
use mathlib.Core.List.{List, [], ◌∷◌, map}
use mathlib.Mathlib.Data.Bool.Basic.{and_elim_left, and_elim_right}
use native.Mathlib.Omega.{arith}
use lib.Dec.{eqb}
use lib.ListN.{length}
use borrow.Author.Tests.{eqb-true, not-true}
use Rattle.buffers.proofs.Cases.{true-or-false}
use Rattle.note.specs.Notes.{Note, start_at, end_at, Sound}
use Rattle.note.proofs.Sound.{length-starts}
use Rattle.convert.specs.declared.OffsetReferential.TheVariants.{Original, Normalized}
use Rattle.pattern.specs.declared.Place.{Place}
use Rattle.pattern.specs.Entries.{places_of}
use Rattle.pattern.specs.Places.{covers_from}
use Rattle.pattern.proofs.Places.{Span, covers-span, covers-rest}
use Rattle.behaviors.specs.declared.SplitDelimiterBehavior.{SplitDelimiterBehavior}
use Rattle.behaviors.specs.declared.EmptyPieces.TheVariants.{Dropped}
use Rattle.behaviors.specs.Splits.{unremoved, splits, is_dropped, is_piece, remaining, pieces}
use Rattle.behaviors.specs.Joining.{joins, drops_matches, starts_of, ends_of}
use Rattle.behaviors.proofs.Gathered.{gathered, splits-gathered, splits-none, splits-cover}
use Rattle.char_columns.specs.declared.OffsetType.TheVariants.{Byte}
use Rattle.char_columns.specs.Numbers.{start_number, end_number}
use Rattle.split_offsets.specs.SplitOffsets.{split_pieces, place_length, start_byte, end_byte, each_piece, SplitsOriginal, SplitsNormalized}
use Rattle.split_offsets.specs.Steps.{from_byte, to_byte, in_order}
use Rattle.split_offsets.proofs.Converting.{First, first-of}
use Rattle.split_offsets.proofs.Judged.{accepted-note, accepted-covers}
use Rattle.split_offsets.proofs.PieceOffsets.{pieces-ordered, start-byte, end-byte}

-- IN THE TRANSCRIPT
module _ (n : Note) (sound : Sound n) where
  original-starts : (sum at : ℕ) (ps : List Place) → in_order (length n.starts) at (starts_of ps) (ends_of ps) ≡ true → each_piece (start_number n.original Byte) n Original sum ps ≡ map (λ p. n.original_shift + start_at n p.start.0) ps
  unfolding each_piece start_number from_byte
  original-starts sum at [] e = refl
  original-starts sum at (p ∷ ps) e =
      let f : First (length n.starts) at p.start.0 p.end.0 (starts_of ps) (ends_of ps) = first-of _ _ _ _ _ _ e in
      rw (start-byte n sound p f.some f.inside sum Original, original-starts (sum + place_length p) p.end.0 ps f.rest)

  original-ends : (sum at : ℕ) (ps : List Place) → in_order (length n.starts) at (starts_of ps) (ends_of ps) ≡ true → each_piece (end_number n.original Byte) n Original sum ps ≡ map (λ p. n.original_shift + end_at n (p.end.0 - 1)) ps
  unfolding each_piece end_number to_byte
  original-ends sum at [] e = refl
  original-ends sum at (p ∷ ps) e =
      let f : First (length n.starts) at p.start.0 p.end.0 (starts_of ps) (ends_of ps) = first-of _ _ _ _ _ _ e in
      rw (end-byte n sound p f.some f.inside sum Original, original-ends (sum + place_length p) p.end.0 ps f.rest)

pub splits-original : SplitsOriginal
unfolding pieces
splits-original most n list behavior room e =
    let sound : Sound n = accepted-note most n list behavior room e in
    let order : in_order (length n.starts) 0 (starts_of (split_pieces list behavior)) (ends_of (split_pieces list behavior)) ≡ true =
    rw (length-starts n sound)
    (pieces-ordered n.normalized 0 (splits behavior (places_of list))
    (splits-cover n.normalized 0 behavior (places_of list) (accepted-covers most n list behavior room e))) in
    (original-starts n sound 0 0 (split_pieces list behavior) order, original-ends n sound 0 0 (split_pieces list behavior) order)

-- IN THE CLEANED TEXT: where nothing is lost, each piece is where the one before it ends
kept : List Place → Bool
kept [] = true
kept (p ∷ ps) = not p.matched && kept ps

gathered-kept : (joined : Bool → Bool → Bool) (run : Place) (ps : List Place) → kept (gathered joined run ps) ≡ true
unfolding kept gathered unremoved
gathered-kept joined run [] = refl
gathered-kept joined run (p ∷ ps) =
    true-or-false (joined run.matched p.matched)
    (λ t. rw t (gathered-kept joined (record { start = run.start; end = p.end; matched = p.matched }) ps))
    (λ f. rw f (gathered-kept joined p ps))

splits-kept : (b : SplitDelimiterBehavior) (ps : List Place) → drops_matches b ≡ false → kept (splits b ps) ≡ true
unfolding kept
splits-kept b [] e = rw (splits-none b)
splits-kept b (p ∷ ps) e = rw (splits-gathered b p ps e) (gathered-kept (joins b) p ps)

module _ (n : Note) (text : List ℕ) where
  normalized-own : (at : ℕ) (qs : List Place) → covers_from text at qs ≡ true → kept qs ≡ true
      → (each_piece (start_number n.original Byte) n Normalized at (remaining Dropped qs) ≡ starts_of (remaining Dropped qs))
      × (each_piece (end_number n.original Byte) n Normalized at (remaining Dropped qs) ≡ ends_of (remaining Dropped qs))
  unfolding remaining is_piece is_dropped kept each_piece start_number end_number start_byte end_byte place_length
  normalized-own at [] c k = (refl, refl)
  normalized-own at (p ∷ qs) c k =
      let span : Span text at p = covers-span text at p qs c in
      let start : at ≡ p.start.0 = sym span.from in
      let end : at + (p.end.0 - p.start.0) ≡ p.end.0 = omega (arith, span.onward) in
      let u : p.matched ≡ false = not-true p.matched (and_elim_left (not p.matched) _ k) in
      let rest = normalized-own p.end.0 qs (covers-rest text at p qs c) (and_elim_right (not p.matched) _ k) in
      true-or-false (eqb p.start.0 p.end.0)
      (λ t.
      let same : at ≡ p.end.0 = start ∙ eqb-true p.start.0 p.end.0 t in
      rw (u, t) (rw same rest))
      (λ f. rw (u, f, end, rest.0, rest.1) (ap (λ (x : ℕ). x ∷ starts_of (remaining Dropped qs)) start, refl))

pub splits-normalized : SplitsNormalized
unfolding pieces
splits-normalized most n list behavior room e whole =
    normalized-own n n.normalized 0 (splits behavior (places_of list))
    (splits-cover n.normalized 0 behavior (places_of list) (accepted-covers most n list behavior room e))
    (splits-kept behavior (places_of list) whole)
