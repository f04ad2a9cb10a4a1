-- The proof of `PieceIsSlice`: the slice of a piece's cleaned range is accepted, and what is written of the piece is what the slice writes.
use Prim.Native.Nat.{ℕ, zero, suc, ◌+◌, ◌-◌, ◌≤◌, ◌<◌, min}
use mathlib.Core.Path.{◌≡◌, ◌∙◌, ap, refl, sym}
use mathlib.Core.Bool.{true, not}
use mathlib.Core.List.{List, [], ◌∷◌, ◌++◌, append_assoc, map, flat_map}
use native.Mathlib.Omega.{arith}
use lib.ListN.{length, get_or, length-map}
use lib.Seq.{take_at, drop_at, drop-drop}
use borrow.Author.Tests.{le-ltb}
use Rattle.std.specs.Prelude.{Result, Ok, Err}
use Rattle.buffers.specs.Splice.{part, overlay}
use Rattle.buffers.proofs.Cases.{true-or-false}
use Rattle.buffers.proofs.Splice.{getD-overlay, length_part}
use Rattle.utf8.specs.Formed.{boundary}
use Rattle.utf8.proofs.Boundaries.{boundary-zero}
use Rattle.note.specs.declared.Refusal.TheVariants.{NotBoundary, Missing}
use Rattle.note.specs.Refusals.{none, meets, verdict, after, unless_refused, Verdict, Accepted}
use Rattle.note.specs.Notes.{Note, Sound}
use Rattle.note.specs.Faults.{note_faults}
use Rattle.note.proofs.FirstMet.{accepted-first, both-accepted}
use Rattle.note.proofs.Faults.{enough-room}
use Rattle.note.proofs.Sound.{length-starts, length-ends, normalized-formed}
use Rattle.convert.specs.Converting.{in_normalized}
use Rattle.pattern.specs.declared.Place.{Place}
use Rattle.pattern.specs.Places.{covers_from}
use Rattle.pattern.specs.Entries.{places_of}
use Rattle.pattern.proofs.Places.{Span, covers-span, covers-rest}
use Rattle.slice.specs.declared.NoteSlice.{NoteSlice}
use Rattle.slice.specs.Slicing.{valid_range, slice_of, sliced, sliced_column, slice_size, unplaced, slice_missing, slice_faults, normalized_start_of, normalized_end_of, Slicing}
use Rattle.slice.proofs.Lowered.{length-lowered}
use Rattle.slice.proofs.Cutting.{normalized-own}
use Rattle.behaviors.specs.declared.SplitDelimiterBehavior.{SplitDelimiterBehavior}
use Rattle.behaviors.specs.declared.EmptyPieces.{EmptyPieces}
use Rattle.behaviors.specs.Splits.{is_piece, remaining, splits, pieces}
use Rattle.behaviors.specs.Joining.{starts_of, ends_of}
use Rattle.behaviors.specs.Runs.{list_pieces}
use Rattle.behaviors.proofs.Gathered.{splits-cover}
use Rattle.split.specs.Splitting.{PieceColumns, piece_of, original_length, cut, cut_by, split_faults, piece_room, alignment_room, Splitting}
use Rattle.split.specs.PieceSlices.{bytes_before, stretch_of, Answers, PieceIsSlice}
use Rattle.split.specs.Writing.{from_start, RangeInside, PieceSpans}
use Rattle.split.proofs.Cuts.{in-original, sliced-as, spans-first, spans-rest}
use Rattle.split.proofs.Judged.{cut-told, count-told, cut-sound, cut-covered, cut-spans}
use Rattle.note.specs.declared.Refusal.{Refusal}

-- each piece is on boundaries of the text
abbrev Standing : List ℕ → List Place → Type 0
Standing text ps = (k : ℕ) → k < length ps → (boundary text (get_or (starts_of ps) k 0) ≡ true) × (boundary text (get_or (ends_of ps) k 0) ≡ true)

standing-cons : (text : List ℕ) (p : Place) (ps : List Place) → boundary text p.start.0 ≡ true → boundary text p.end.0 ≡ true → Standing text ps → Standing text (p ∷ ps)
standing-cons text p ps low high s zero h = (low, high)
standing-cons text p ps low high s (suc k) h = s k (omega arith)

remaining-standing : (text : List ℕ) (at : ℕ) (e : EmptyPieces) (ps : List Place) → covers_from text at ps ≡ true → boundary text at ≡ true → Standing text (remaining e ps)
unfolding remaining
remaining-standing text at e [] c b = λ k h. absurd (omega arith)
remaining-standing text at e (p ∷ ps) c b =
    let span : Span text at p = covers-span text at p ps c in
    let more = remaining-standing text p.end.0 e ps (covers-rest text at p ps c) span.stands in
    true-or-false (is_piece e p)
    (λ t. rw t (standing-cons text p (remaining e ps) (rw span.from b) span.stands more))
    (λ f. rw f more)

pieces-standing : (text : List ℕ) (b : SplitDelimiterBehavior) (e : EmptyPieces) (ps : List Place) → covers_from text 0 ps ≡ true → boundary text 0 ≡ true → Standing text (pieces b e ps)
unfolding pieces
pieces-standing text b e ps c z = remaining-standing text 0 e (splits b ps) (splits-cover text 0 b ps c) z

-- a cleaned range that is on boundaries is sliced
module _ (most : ℕ) (n : Note) (noted : verdict (note_faults most n) ≡ Accepted) (sound : Sound n) (a b : ℕ) (i : RangeInside (length n.normalized) a b) (low : boundary n.normalized a ≡ true) (high : boundary n.normalized b ≡ true) where
  valid-range : Accepted ≡ verdict (meets NotBoundary (not (valid_range n.original n.normalized (in_normalized a b))) none)
  unfolding verdict valid_range
  valid-range = rw (low, high)

  placed : Accepted ≡ verdict (meets Missing (slice_missing n (in_normalized a b)) none)
  unfolding verdict slice_missing unplaced
  placed = rw (in-original n sound a b i, normalized-own n.starts n.ends a b, le-ltb (length n.normalized) b i.most)

  size : slice_size (sliced n (in_normalized a b)) ≡ b - a
  unfolding slice_of
  size = rw (sliced-as n sound a b i)

  range-accepted : (room : ℕ) → b - a ≤ room → verdict (slice_faults most n (in_normalized a b) room) ≡ Accepted
  range-accepted room h =
      both-accepted _ _ noted (both-accepted _ _ (sym valid-range) (both-accepted _ _ (sym placed) (sym (enough-room {size = slice_size (sliced n (in_normalized a b))} {room = room} (omega (arith, size))))))

module _ (n : Note) (sound : Sound n) (a b : ℕ) (i : RangeInside (length n.normalized) a b) where
  start-own : normalized_start_of (sliced n (in_normalized a b)) ≡ a
  unfolding slice_of
  start-own = rw (sliced-as n sound a b i)

  end-own : normalized_end_of (sliced n (in_normalized a b)) ≡ b
  unfolding slice_of
  end-own = rw (sliced-as n sound a b i)

-- THE PIECE AT k
module _ (n : Note) (sound : Sound n) where
  abbrev slice_at : List Place → ℕ → NoteSlice
  slice_at ps k = sliced n (in_normalized (get_or (starts_of ps) k 0) (get_or (ends_of ps) k 0))

  shift-at : (ps : List Place) (k : ℕ) → k < length ps → (slice_at ps k).original_shift ≡ get_or (map (λ p. (piece_of n p).original_shift) ps) k 0
  unfolding piece_of
  shift-at [] k h = absurd (omega arith)
  shift-at (p ∷ ps) zero h = refl
  shift-at (p ∷ ps) (suc k) h = shift-at ps k (omega arith)

  length_at : (ps : List Place) (k : ℕ) → k < length ps → original_length (slice_at ps k) ≡ get_or (map (λ p. original_length (piece_of n p)) ps) k 0
  unfolding piece_of
  length_at [] k h = absurd (omega arith)
  length_at (p ∷ ps) zero h = refl
  length_at (p ∷ ps) (suc k) h = length_at ps k (omega arith)

  -- how many alignments a piece gives
  length-first : (column : List ℕ) → length column ≡ length n.normalized → (p : Place) → RangeInside (length n.normalized) p.start.0 p.end.0 → length (sliced_column (piece_of n p) column) ≡ p.end.0 - p.start.0
  unfolding piece_of slice_of sliced_column
  length-first column one p i =
      rw (sliced-as n sound p.start.0 p.end.0 i)
      (length-lowered (from_start n.starts p.start.0 p.end.0) (part column p.start.0 p.end.0) ∙ length_part column p.start.0 p.end.0 (omega (arith, i.most)))

  -- its stretch of the column, whatever is after all of them
  stretch-at : (column : List ℕ) → length column ≡ length n.normalized → (ps : List Place) → PieceSpans (length n.normalized) (starts_of ps) (ends_of ps) → (d : List ℕ) (k : ℕ) → k < length ps
      → part (flat_map (λ p. sliced_column (piece_of n p) column) ps ++ d) (bytes_before (starts_of ps) (ends_of ps) k) (bytes_before (starts_of ps) (ends_of ps) (suc k)) ≡ sliced_column (slice_at ps k) column
  unfolding bytes_before flat_map piece_of
  stretch-at column one [] s d k h = absurd (omega arith)
  stretch-at column one (p ∷ ps) s d zero h =
      let first : List ℕ = sliced_column (piece_of n p) column in
      let rest : List ℕ = flat_map (λ p. sliced_column (piece_of n p) column) ps in
      let long : length first ≡ p.end.0 - p.start.0 = length-first column one p (spans-first s) in
      rw (append_assoc first rest d) (take_at first (rest ++ d) (p.end.0 - p.start.0 + 0 - 0) (omega (arith, long)))
  stretch-at column one (p ∷ ps) s d (suc k) h =
      let first : List ℕ = sliced_column (piece_of n p) column in
      let rest : List ℕ = flat_map (λ p. sliced_column (piece_of n p) column) ps in
      let low : ℕ = bytes_before (starts_of ps) (ends_of ps) k in
      let high : ℕ = bytes_before (starts_of ps) (ends_of ps) (suc k) in
      let wide : ℕ = p.end.0 - p.start.0 in
      let long : length first ≡ wide = length-first column one p (spans-first s) in
      let size : wide + high - (wide + low) ≡ high - low = omega arith in
      rw (append_assoc first rest d, size, ← drop-drop low wide (first ++ (rest ++ d)), drop_at first (rest ++ d) wide long)
      (stretch-at column one ps (spans-rest s) d k (omega arith))

-- the pieces' own numbers stand in front of longer columns
before-front : (from to d e : List ℕ) (k : ℕ) → length from ≡ length to → k ≤ length from → bytes_before (from ++ d) (to ++ e) k ≡ bytes_before from to k
unfolding bytes_before
before-front from to d e zero l h = refl
before-front [] to d e (suc k) l h = absurd (omega arith)
before-front (a ∷ from) [] d e (suc k) l h = absurd (omega arith)
before-front (a ∷ from) (b ∷ to) d e (suc k) l h = rw (before-front from to d e k (omega arith) (omega arith))

-- THE CLAIM
slice-told : {v : Verdict} {s : NoteSlice} {r : Result NoteSlice Refusal} → v ≡ Accepted → r ≡ unless_refused Err v (Ok s) → r ≡ Ok s
slice-told a e = e ∙ rw a

after-told : {v : Verdict} (x d : List ℕ) {y : List ℕ} → v ≡ Accepted → y ≡ after v x d → y ≡ overlay x d
after-told x d a e = e ∙ rw a

module _ (most : ℕ) (n : Note) (list : List ℕ) (b : SplitDelimiterBehavior) (e : EmptyPieces) (c₀ c : PieceColumns) (count alignments : ℕ) (call : Splitting most n list b e c₀ (Ok (count, alignments)) c) where
  abbrev all : List Place
  all = list_pieces b e list

  accepts : call.says ≡ Accepted
  accepts = cut-told call.says (cut_by n list b e) call.answer

  ok : verdict (split_faults most n list b e (piece_room c₀) (alignment_room c₀)) ≡ Accepted
  ok = sym call.says_is ∙ accepts

  good : Sound n
  good = cut-sound most n list b e (piece_room c₀) (alignment_room c₀) ok

  spans : PieceSpans (length n.normalized) (starts_of all) (ends_of all)
  spans = cut-spans most n list b e (piece_room c₀) (alignment_room c₀) ok

  standing : Standing n.normalized all
  standing = pieces-standing n.normalized b e (places_of list) (cut-covered most n list b e (piece_room c₀) (alignment_room c₀) ok) (boundary-zero n.normalized (normalized-formed n good))

  noted : verdict (note_faults most n) ≡ Accepted
  noted = accepted-first (note_faults most n) _ ok

  starts-now : c.starts ≡ overlay (starts_of all) c₀.starts
  unfolding cut
  starts-now = after-told _ _ accepts call.starts_are

  ends_now : c.ends ≡ overlay (ends_of all) c₀.ends
  unfolding cut
  ends_now = after-told _ _ accepts call.ends_are

  shifts-now : c.shifts ≡ overlay (map (λ p. (piece_of n p).original_shift) all) c₀.shifts
  unfolding cut
  shifts-now = after-told _ _ accepts call.shifts_are

  lengths-now : c.lengths ≡ overlay (map (λ p. original_length (piece_of n p)) all) c₀.lengths
  unfolding cut
  lengths-now = after-told _ _ accepts call.lengths_are

  alignment-starts-now : c.alignment_starts ≡ overlay (flat_map (λ p. sliced_column (piece_of n p) n.starts) all) c₀.alignment_starts
  unfolding cut
  alignment-starts-now = after-told _ _ accepts call.alignment-starts-are

  alignment-ends-now : c.alignment_ends ≡ overlay (flat_map (λ p. sliced_column (piece_of n p) n.ends) all) c₀.alignment_ends
  unfolding cut
  alignment-ends-now = after-told _ _ accepts call.alignment-ends-are

  counted : count ≡ length all
  unfolding cut
  counted = count-told (cut_by n list b e) accepts call.answer ∙ length-map all (λ (p : Place). p.start.0)

  module _ (k : ℕ) (h : k < count) where
    start-at : get_or c.starts k 0 ≡ get_or (starts_of all) k 0
    start-at = ap (λ (xs : List ℕ). get_or xs k 0) starts-now ∙ getD-overlay (starts_of all) c₀.starts k (omega (arith, counted, length-map all (λ (p : Place). p.start.0)))

    end-at : get_or c.ends k 0 ≡ get_or (ends_of all) k 0
    end-at = ap (λ (xs : List ℕ). get_or xs k 0) ends_now ∙ getD-overlay (ends_of all) c₀.ends k (omega (arith, counted, length-map all (λ (p : Place). p.end.0)))

    the-slice : sliced n (in_normalized (get_or c.starts k 0) (get_or c.ends k 0)) ≡ slice_at n good all k
    the-slice = λ i. sliced n (in_normalized (start-at i) (end-at i))

    before : (j : ℕ) → j ≤ length all → bytes_before c.starts c.ends j ≡ bytes_before (starts_of all) (ends_of all) j
    unfolding overlay
    before j most-j =
        (λ i. bytes_before (starts-now i) (ends_now i) j)
        ∙ before-front (starts_of all) (ends_of all) _ _ j spans.paired (omega (arith, length-map all (λ (p : Place). p.start.0)))

    stretch-starts : stretch_of c k c.alignment_starts ≡ sliced_column (slice_at n good all k) n.starts
    unfolding overlay
    stretch-starts =
        (λ i. part (alignment-starts-now i) (before k (omega (arith, counted)) i) (before (suc k) (omega (arith, counted)) i))
        ∙ stretch-at n good n.starts (length-starts n good) all spans _ k (omega (arith, counted))

    stretch-ends : stretch_of c k c.alignment_ends ≡ sliced_column (slice_at n good all k) n.ends
    unfolding overlay
    stretch-ends =
        (λ i. part (alignment-ends-now i) (before k (omega (arith, counted)) i) (before (suc k) (omega (arith, counted)) i))
        ∙ stretch-at n good n.ends (length-ends n good) all spans _ k (omega (arith, counted))

    piece-answers : (starts₀ ends₀ : List ℕ) (r : Result NoteSlice Refusal) (starts ends : List ℕ) → get_or c.ends k 0 - get_or c.starts k 0 ≤ length starts₀ → get_or c.ends k 0 - get_or c.starts k 0 ≤ length ends₀
        → Slicing most n (in_normalized (get_or c.starts k 0) (get_or c.ends k 0)) starts₀ ends₀ r starts ends → Answers c k starts₀ ends₀ r starts ends
    piece-answers starts₀ ends₀ r starts ends rs re w =
        let at : k < length (starts_of all) = omega (arith, counted, length-map all (λ (p : Place). p.start.0)) in
        let in_text : RangeInside (length n.normalized) (get_or c.starts k 0) (get_or c.ends k 0) = rw (start-at, end-at) (spans.each k at) in
        let stands = standing k (omega (arith, counted)) in
        let taken : w.says ≡ Accepted = w.says_is ∙ range-accepted most n noted good _ _ in_text (rw start-at stands.0) (rw end-at stands.1) (min (length starts₀) (length ends₀)) (omega arith) in
        let own = sliced-as n good _ _ in_text in
        record {
          slice = sliced n (in_normalized (get_or c.starts k 0) (get_or c.ends k 0));
          answer = slice-told taken w.answer;
          is_piece =
              record {
                start_is = start-own n good _ _ in_text;
                end_is = end-own n good _ _ in_text;
                shift_is =
                    ap (λ (s : NoteSlice). s.original_shift) the-slice ∙ shift-at n good all k (omega (arith, counted))
                    ∙ sym (ap (λ (xs : List ℕ). get_or xs k 0) shifts-now ∙ getD-overlay _ c₀.shifts k (omega (arith, counted, length-map all (λ (p : Place). (piece_of n p).original_shift))));
                length_is =
                    ap original_length the-slice ∙ length_at n good all k (omega (arith, counted))
                    ∙ sym (ap (λ (xs : List ℕ). get_or xs k 0) lengths-now ∙ getD-overlay _ c₀.lengths k (omega (arith, counted, length-map all (λ (p : Place). original_length (piece_of n p)))));
                starts_are = after-told _ _ taken w.starts_are ∙ ap (λ (x : List ℕ). overlay x starts₀) (ap (λ (s : NoteSlice). sliced_column s n.starts) the-slice ∙ sym stretch-starts);
                ends_are = after-told _ _ taken w.ends_are ∙ ap (λ (x : List ℕ). overlay x ends₀) (ap (λ (s : NoteSlice). sliced_column s n.ends) the-slice ∙ sym stretch-ends);
              };
        }

pub piece-is-slice : PieceIsSlice
piece-is-slice most n list b e c₀ c count alignments call k h = piece-answers most n list b e c₀ c count alignments call k h
