-- Laws of `cut`: a piece's slice by its two cleaned numbers, and the six columns of the pieces by theirs.
use Prim.Native.Nat.{ℕ, zero, suc, ◌+◌, ◌-◌, ◌≤◌, ◌<◌}
use mathlib.Core.Path.{◌≡◌, ◌∙◌, ap, refl, sym}
use mathlib.Core.Bool.{true}
use mathlib.Core.List.{List, [], ◌∷◌, map, flat_map}
use native.Mathlib.Omega.{arith}
use lib.ListN.{length, get_or, length-append, length-map}
use borrow.Author.Tests.{eqb-true}
use Rattle.std.specs.Prelude.{Ok}
use Rattle.buffers.specs.Splice.{part}
use Rattle.buffers.proofs.Cases.{true-or-false, le-or-lt}
use Rattle.buffers.proofs.Splice.{length_part}
use Rattle.note.specs.Notes.{Note, start_at, end_at, Sound}
use Rattle.note.proofs.Sound.{length-starts, length-ends, inside-at}
use Rattle.convert.specs.Converting.{in_original, in_normalized}
use Rattle.convert.proofs.Conversions.{expanded-inside}
use Rattle.convert.specs.Converting.{as_original}
use Rattle.pattern.specs.declared.Place.{Place}
use Rattle.pattern.specs.Places.{covers_from}
use Rattle.pattern.proofs.Places.{Span, covers-span, covers-rest}
use Rattle.slice.specs.Slicing.{slice_of, sliced, sliced_column}
use Rattle.slice.proofs.Lowered.{length-lowered}
use Rattle.slice.proofs.Cutting.{original-empty, original-found, normalized-own, alignments-on}
use Rattle.behaviors.specs.declared.SplitDelimiterBehavior.{SplitDelimiterBehavior}
use Rattle.behaviors.specs.declared.EmptyPieces.{EmptyPieces}
use Rattle.behaviors.specs.Splits.{is_piece, remaining, splits, pieces}
use Rattle.behaviors.specs.Joining.{starts_of, ends_of}
use Rattle.behaviors.specs.Runs.{total_length}
use Rattle.behaviors.proofs.Gathered.{splits-cover}
use Rattle.split.specs.Splitting.{piece_of, original_length, cut}
use Rattle.split.specs.PieceSlices.{bytes_before}
use Rattle.split.specs.Writing.{from_start, to_end, shift_of, length_of, lowered_column, end_to_end, RangeInside, PieceSpans}
use Rattle.split.proofs.Joined.{start-empty, start-read, end_empty, end_read}

-- the slice of cleaned bytes a..b
module _ (n : Note) (sound : Sound n) (a b : ℕ) (i : RangeInside (length n.normalized) a b) where
  pub in-original : as_original n.starts n.ends (in_normalized a b) ≡ Ok (in_original (from_start n.starts a b) (to_end n.ends a b))
  in-original =
      let past : b ≤ length n.ends = omega (arith, i.most, length-ends n sound) in
      le-or-lt b a
      (λ empty.
      let same : a ≡ b = omega (arith, i.forward) in
      original-empty n.starts n.ends a b same ∙ (λ j. Ok (in_original (start-empty n.starts a b same j) (end_empty n.ends a b same j))))
      (λ some.
      let other : a ≡ b → ⊥ = λ e. omega arith in
      original-found n.starts n.ends a b some past ∙ sym (expanded-inside n.starts n.ends a b past)
      ∙ (λ j. Ok (in_original (start-read n.starts a b other j) (end_read n.ends a b other j))))

  pub sliced-as : sliced n (in_normalized a b) ≡ slice_of (Ok (in_original (from_start n.starts a b) (to_end n.ends a b))) (Ok (in_normalized a b)) n.original_shift
  unfolding sliced
  sliced-as = rw (in-original, normalized-own n.starts n.ends a b)

  -- its transcript starts before it ends and, where it has a byte, at or before each alignment from there on
  pub in_order : from_start n.starts a b ≤ to_end n.ends a b
  in_order =
      le-or-lt b a
      (λ empty.
      let same : a ≡ b = omega (arith, i.forward) in
      omega (arith, start-empty n.starts a b same, end_empty n.ends a b same))
      (λ some.
      let other : a ≡ b → ⊥ = λ e. omega arith in
      omega (arith, start-read n.starts a b other, end_read n.ends a b other, i.most, (inside-at n sound a (omega (arith, i.most))).0, (alignments-on n sound a (b - 1) (omega arith) (omega (arith, i.most))).1))

  pub starts-above : a < b → (k : ℕ) → a ≤ k → k < length n.normalized → from_start n.starts a b ≤ start_at n k
  starts-above some k from to =
      omega (arith, start-read n.starts a b (λ e. omega arith), (alignments-on n sound a k from to).0)

  pub ends_above : a < b → (k : ℕ) → a ≤ k → k < length n.normalized → from_start n.starts a b ≤ end_at n k
  ends_above some k from to = omega (arith, starts-above some k from to, (inside-at n sound k to).0)

-- pairs of a list of pieces
pub spans-first : {size a b : ℕ} {from to : List ℕ} → PieceSpans size (a ∷ from) (b ∷ to) → RangeInside size a b
spans-first s = s.each 0 (omega arith)

pub spans-rest : {size a b : ℕ} {from to : List ℕ} → PieceSpans size (a ∷ from) (b ∷ to) → PieceSpans size from to
spans-rest s = record { paired = omega (arith, s.paired); each = λ k h. s.each (suc k) (omega arith) }

spans-cons : {size a b : ℕ} {from to : List ℕ} → RangeInside size a b → PieceSpans size from to → PieceSpans size (a ∷ from) (b ∷ to)
spans-cons {size} {a} {b} {from} {to} i s = record { paired = omega (arith, s.paired); each = each }
  where
    each : (k : ℕ) → k < length (a ∷ from) → RangeInside size (get_or (a ∷ from) k 0) (get_or (b ∷ to) k 0)
    each zero h = i
    each (suc k) h = s.each k (omega arith)

remaining-spans : (text : List ℕ) (at : ℕ) (e : EmptyPieces) (ps : List Place) → covers_from text at ps ≡ true → PieceSpans (length text) (starts_of (remaining e ps)) (ends_of (remaining e ps))
unfolding remaining
remaining-spans text at e [] c = record { paired = refl; each = λ k h. absurd (omega arith) }
remaining-spans text at e (p ∷ ps) c =
    let span : Span text at p = covers-span text at p ps c in
    let more = remaining-spans text p.end.0 e ps (covers-rest text at p ps c) in
    true-or-false (is_piece e p)
    (λ t. rw t (spans-cons (record { forward = omega (arith, span.from, span.onward); most = span.inside }) more))
    (λ f. rw f more)

pub pieces-spans : (text : List ℕ) (b : SplitDelimiterBehavior) (e : EmptyPieces) (ps : List Place) → covers_from text 0 ps ≡ true → PieceSpans (length text) (starts_of (pieces b e ps)) (ends_of (pieces b e ps))
unfolding pieces
pieces-spans text b e ps c = remaining-spans text 0 e (splits b ps) (splits-cover text 0 b ps c)

-- pieces have no more bytes than the text
remaining-short : (text : List ℕ) (at : ℕ) (e : EmptyPieces) (ps : List Place) → covers_from text at ps ≡ true → at + total_length (remaining e ps) ≤ length text
unfolding remaining total_length covers_from
remaining-short text at e [] c = omega (arith, eqb-true at (length text) c)
remaining-short text at e (p ∷ ps) c =
    let span : Span text at p = covers-span text at p ps c in
    let more = remaining-short text p.end.0 e ps (covers-rest text at p ps c) in
    true-or-false (is_piece e p)
    (λ t. rw t (omega (arith, span.from, span.onward, more)))
    (λ f. rw f (omega (arith, span.from, span.onward, more)))

pub pieces-short : (text : List ℕ) (b : SplitDelimiterBehavior) (e : EmptyPieces) (ps : List Place) → covers_from text 0 ps ≡ true → total_length (pieces b e ps) ≤ length text
unfolding pieces
pieces-short text b e ps c = omega (arith, remaining-short text 0 e (splits b ps) (splits-cover text 0 b ps c))

-- counted by their starts and ends
pub bytes_counted : (ps : List Place) → bytes_before (starts_of ps) (ends_of ps) (length ps) ≡ total_length ps
unfolding bytes_before total_length
bytes_counted [] = refl
bytes_counted (p ∷ ps) = ap (◌+◌ (p.end.0 - p.start.0)) (bytes_counted ps)

-- THE COLUMNS
module _ (n : Note) (sound : Sound n) where
  shifts-joined : (ps : List Place) → PieceSpans (length n.normalized) (starts_of ps) (ends_of ps) → map (λ p. (piece_of n p).original_shift) ps ≡ end_to_end (shift_of n.starts n.original_shift) (starts_of ps) (ends_of ps)
  unfolding end_to_end shift_of piece_of slice_of
  shifts-joined [] s = refl
  shifts-joined (p ∷ ps) s = rw (sliced-as n sound p.start.0 p.end.0 (spans-first s), shifts-joined ps (spans-rest s))

  lengths-joined : (ps : List Place) → PieceSpans (length n.normalized) (starts_of ps) (ends_of ps) → map (λ p. original_length (piece_of n p)) ps ≡ end_to_end (length_of n.starts n.ends) (starts_of ps) (ends_of ps)
  unfolding end_to_end length_of piece_of slice_of original_length
  lengths-joined [] s = refl
  lengths-joined (p ∷ ps) s = rw (sliced-as n sound p.start.0 p.end.0 (spans-first s), lengths-joined ps (spans-rest s))

  column-joined : (column : List ℕ) (ps : List Place) → PieceSpans (length n.normalized) (starts_of ps) (ends_of ps) → flat_map (λ p. sliced_column (piece_of n p) column) ps ≡ end_to_end (lowered_column n.starts column) (starts_of ps) (ends_of ps)
  unfolding flat_map end_to_end lowered_column piece_of slice_of sliced_column
  column-joined column [] s = refl
  column-joined column (p ∷ ps) s = rw (sliced-as n sound p.start.0 p.end.0 (spans-first s), column-joined column ps (spans-rest s))

  -- as many alignments as the pieces have bytes
  length-joined : (column : List ℕ) → length column ≡ length n.normalized → (ps : List Place) → PieceSpans (length n.normalized) (starts_of ps) (ends_of ps) → length (end_to_end (lowered_column n.starts column) (starts_of ps) (ends_of ps)) ≡ total_length ps
  unfolding end_to_end lowered_column total_length
  length-joined column one [] s = refl
  length-joined column one (p ∷ ps) s =
      let first = lowered_column n.starts column p.start.0 p.end.0 in
      length-append first (end_to_end (lowered_column n.starts column) (starts_of ps) (ends_of ps))
      ∙ omega (arith, length-joined column one ps (spans-rest s), length-lowered (from_start n.starts p.start.0 p.end.0) (part column p.start.0 p.end.0), length_part column p.start.0 p.end.0 (omega (arith, (spans-first s).most)))

  module _ (ps : List Place) (s : PieceSpans (length n.normalized) (starts_of ps) (ends_of ps)) where
    pub shifts_are : (cut n ps).shifts ≡ end_to_end (shift_of n.starts n.original_shift) (starts_of ps) (ends_of ps)
    unfolding cut
    shifts_are = shifts-joined ps s

    pub lengths_are : (cut n ps).lengths ≡ end_to_end (length_of n.starts n.ends) (starts_of ps) (ends_of ps)
    unfolding cut
    lengths_are = lengths-joined ps s

    pub alignment-starts-are : (cut n ps).alignment_starts ≡ end_to_end (lowered_column n.starts n.starts) (starts_of ps) (ends_of ps)
    unfolding cut
    alignment-starts-are = column-joined n.starts ps s

    pub alignment-ends-are : (cut n ps).alignment_ends ≡ end_to_end (lowered_column n.starts n.ends) (starts_of ps) (ends_of ps)
    unfolding cut
    alignment-ends-are = column-joined n.ends ps s

    pub starts_long : length (end_to_end (lowered_column n.starts n.starts) (starts_of ps) (ends_of ps)) ≡ total_length ps
    starts_long = length-joined n.starts (length-starts n sound) ps s

    pub ends_long : length (end_to_end (lowered_column n.starts n.ends) (starts_of ps) (ends_of ps)) ≡ total_length ps
    ends_long = length-joined n.ends (length-ends n sound) ps s

    pub alignments-long : length (cut n ps).alignment_starts ≡ total_length ps
    alignments-long = ap length alignment-starts-are ∙ starts_long

pub starts_are : (n : Note) (ps : List Place) → (cut n ps).starts ≡ starts_of ps
unfolding cut
starts_are n ps = refl

pub ends_are : (n : Note) (ps : List Place) → (cut n ps).ends ≡ ends_of ps
unfolding cut
ends_are n ps = refl

pub pieces-long : (n : Note) (ps : List Place) → length (cut n ps).starts ≡ length ps
unfolding cut
pieces-long n ps = length-map ps (λ (p : Place). p.start.0)

pub shifts-long : (n : Note) (ps : List Place) (f : Place → ℕ) → length (cut n ps).shifts ≡ length (map f ps)
unfolding cut
shifts-long n ps f = length-map ps (λ p. (piece_of n p).original_shift) ∙ sym (length-map ps f)
