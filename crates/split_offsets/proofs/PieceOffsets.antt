-- The pieces that remain: they stand in order, and their offsets go by their cleaned starts and ends.
use Prim.Native.Nat.{ℕ, suc, ◌+◌, ◌-◌, ◌≤◌, ◌<◌, min}
use mathlib.Core.Path.{◌≡◌, ◌∙◌, ap, refl, sym}
use mathlib.Core.Bool.{true, ◌&&◌, not}
use mathlib.Core.List.{List, [], ◌∷◌, map}
use mathlib.Mathlib.Data.Bool.Basic.{and_intro, and_elim_right}
use native.Mathlib.Omega.{arith}
use lib.Dec.{leb, ltb, eqb}
use lib.ListN.{length, take}
use borrow.Author.Tests.{le-leb, lt-ltb, eqb-false, not-true}
use Rattle.std.specs.Prelude.{Ok, Err}
use Rattle.buffers.proofs.Cases.{true-or-false}
use Rattle.buffers.proofs.Splice.{overlay-overlay}
use Rattle.note.specs.declared.Refusal.{Refusal}
use Rattle.note.specs.Refusals.{verdict, Verdict, Accepted}
use Rattle.note.specs.Notes.{Note, start_at, end_at, Sound}
use Rattle.note.proofs.Sound.{length-starts, length-ends}
use Rattle.convert.specs.declared.OffsetReferential.{OffsetReferential}
use Rattle.convert.specs.declared.OffsetReferential.TheVariants.{Original, Normalized}
use Rattle.convert.specs.Converting.{in_original, in_normalized}
use Rattle.utf8.proofs.Boundaries.{Between}
use Rattle.convert.proofs.Inside.{expanded-inside}
use Rattle.pattern.specs.declared.Place.{Place}
use Rattle.pattern.specs.Entries.{places_of}
use Rattle.pattern.specs.Places.{covers_from}
use Rattle.pattern.proofs.Places.{Span, covers-span, covers-rest}
use Rattle.slice.specs.declared.NoteSlice.{NoteSlice}
use Rattle.slice.specs.Slicing.{slice_of}
use Rattle.slice.proofs.SliceNotes.{normalized-sliced}
use Rattle.behaviors.specs.declared.SplitDelimiterBehavior.{SplitDelimiterBehavior}
use Rattle.behaviors.specs.declared.EmptyPieces.TheVariants.{Dropped}
use Rattle.behaviors.specs.Splits.{splits, is_dropped, is_piece, remaining, pieces}
use Rattle.behaviors.specs.Joining.{starts_of, ends_of}
use Rattle.spans.specs.Packing.{packed_of, packed_span, span_start, span_end, PackedRoom, PackedLaid}
use Rattle.spans.proofs.Packing.{packed-long, packed-front}
use Rattle.behaviors.proofs.Gathered.{splits-cover}
use Rattle.split.specs.Splitting.{piece_of, original_length}
use Rattle.char_columns.specs.declared.OffsetType.{OffsetType}
use Rattle.char_columns.specs.Numbers.{start_number, end_number}
use Rattle.split_offsets.specs.SplitOffsets.{split_pieces, place_length, start_byte, end_byte, each_piece, splits_faults, GetSplits}
use Rattle.split_offsets.specs.Steps.{from_byte, to_byte, in_order, each_span, SpansReady, SpansConverted}
use Rattle.split_offsets.proofs.Converting.{First, first-of}
use Rattle.split_offsets.proofs.Judged.{accepted-note, accepted-lengths, accepted-covers, accepted-whole, accepted-room}

-- IN ORDER
order-low : (size at at₁ : ℕ) (from to : List ℕ) → at ≤ at₁ → in_order size at₁ from to ≡ true → in_order size at from to ≡ true
unfolding in_order
order-low size at at₁ [] [] h e = refl
order-low size at at₁ [] (b ∷ to) h e = e
order-low size at at₁ (a ∷ from) [] h e = e
order-low size at at₁ (a ∷ from) (b ∷ to) h e =
    let f : First size at₁ a b from to = first-of size at₁ a b from to e in
    order-cons size at a b from to (omega (arith, f.behind)) f.some f.inside f.rest
  where
    order-cons : (size at a b : ℕ) (from to : List ℕ) → at ≤ a → a < b → b ≤ size → in_order size b from to ≡ true → (leb at a && ltb a b && leb b size && in_order size b from to) ≡ true
    order-cons size at a b from to p q r t = and_intro (and_intro (and_intro (le-leb at a p) (lt-ltb a b q)) (le-leb b size r)) t

pub pieces-ordered : (text : List ℕ) (at : ℕ) (qs : List Place) → covers_from text at qs ≡ true → in_order (length text) at (starts_of (remaining Dropped qs)) (ends_of (remaining Dropped qs)) ≡ true
unfolding remaining is_piece is_dropped in_order
pieces-ordered text at [] c = refl
pieces-ordered text at (p ∷ qs) c =
    let span : Span text at p = covers-span text at p qs c in
    let rest = pieces-ordered text p.end.0 qs (covers-rest text at p qs c) in
    true-or-false (not p.matched && not (eqb p.start.0 p.end.0))
    (λ t.
    let differ : p.start.0 ≡ p.end.0 → ⊥ = eqb-false p.start.0 p.end.0 (not-true _ (and_elim_right (not p.matched) _ t)) in
    let from : p.start.0 ≡ at = span.from in
    rw t (and_intro (and_intro (and_intro (le-leb at p.start.0 (omega arith)) (lt-ltb p.start.0 p.end.0 (omega (arith, span.onward, differ)))) (le-leb p.end.0 (length text) span.inside)) rest))
    (λ f. rw f (order-low (length text) at p.end.0 (starts_of (remaining Dropped qs)) (ends_of (remaining Dropped qs)) (omega (arith, span.from, span.onward)) rest))

-- THE BYTES of a piece
module _ (n : Note) (sound : Sound n) (p : Place) (some : p.start.0 < p.end.0) (inside : p.end.0 ≤ length n.starts) (sum : ℕ) where
  in_ends : p.end.0 ≤ length n.ends
  in_ends = omega (arith, length-starts n sound, length-ends n sound)

  piece_is : piece_of n p ≡ slice_of (Ok (in_original (start_at n p.start.0) (end_at n (p.end.0 - 1)))) (Ok (in_normalized p.start.0 p.end.0)) n.original_shift
  unfolding piece_of
  piece_is = normalized-sliced n p.start.0 p.end.0 some in_ends

  pub start-byte : (side : OffsetReferential) → start_byte n side sum p ≡ from_byte n.starts n.original_shift side sum p.start.0
  unfolding start_byte from_byte slice_of
  start-byte Original = ap (λ (s : NoteSlice). s.original_shift) piece_is
  start-byte Normalized = refl

  pub end-byte : (side : OffsetReferential) → end_byte n side sum p ≡ to_byte n.ends n.original_shift side sum p.start.0 p.end.0
  unfolding end_byte to_byte slice_of place_length original_length
  end-byte Original =
      let lies : Between n.original (start_at n p.start.0) (end_at n (p.end.0 - 1)) = expanded-inside n sound p.start.0 p.end.0 some in_ends in
      let whole : n.original_shift + start_at n p.start.0 + (end_at n (p.end.0 - 1) - start_at n p.start.0) ≡ n.original_shift + end_at n (p.end.0 - 1) = omega (arith, lies.onward) in
      ap (λ (s : NoteSlice). s.original_shift + original_length s) piece_is ∙ whole
  end-byte Normalized = refl

pub each-pieces : (number : ℕ → ℕ → ℕ) (n : Note) → Sound n → (side : OffsetReferential) (sum at : ℕ) (ps : List Place)
    → in_order (length n.starts) at (starts_of ps) (ends_of ps) ≡ true
    → each_span number n.starts n.ends n.original_shift side sum (starts_of ps) (ends_of ps) ≡ each_piece number n side sum ps
unfolding each_span each_piece place_length
each-pieces number n sound side sum at [] e = refl
each-pieces number n sound side sum at (p ∷ ps) e =
    let f : First (length n.starts) at p.start.0 p.end.0 (starts_of ps) (ends_of ps) = first-of _ _ _ _ _ _ e in
    rw (
      start-byte n sound p f.some f.inside sum side,
      end-byte n sound p f.some f.inside sum side,
      each-pieces number n sound side (sum + (p.end.0 - p.start.0)) p.end.0 ps f.rest,
    )

length-pieces : (number : ℕ → ℕ → ℕ) (n : Note) (side : OffsetReferential) (sum : ℕ) (ps : List Place) (f : Place → ℕ) → length (each_piece number n side sum ps) ≡ length (map f ps)
unfolding each_piece
length-pieces number n side sum [] f = refl
length-pieces number n side sum (p ∷ ps) f = ap suc (length-pieces number n side (sum + place_length p) ps f)

-- THE CALL
module _ (most : ℕ) (n : Note) (list : List ℕ) (behavior : SplitDelimiterBehavior) (side : OffsetReferential) (unit : OffsetType) (starts₀ ends₀ : List ℕ) {room : ℕ} {v : Verdict} (rooms : room ≡ min (length starts₀) (length ends₀)) (says : v ≡ verdict (splits_faults most n list behavior room)) where
  said : v ≡ verdict (splits_faults most n list behavior (min (length starts₀) (length ends₀)))
  said = says ∙ ap (λ (m : ℕ). verdict (splits_faults most n list behavior m)) rooms

  pub refused : {k : Refusal} → v ≡ Err k → GetSplits most n list behavior side unit starts₀ ends₀ (Err k) starts₀ ends₀
  refused {k} e = record { says = Err k; says_is = sym e ∙ said; answer = refl; starts_are = refl; ends_are = refl }

  module _ (ok : v ≡ Accepted) where
    abbrev ps : List Place
    ps = split_pieces list behavior

    accepted : verdict (splits_faults most n list behavior (min (length starts₀) (length ends₀))) ≡ Accepted
    accepted = sym said ∙ ok

    fits : length ps ≤ min (length starts₀) (length ends₀)
    fits = accepted-room most n list behavior (min (length starts₀) (length ends₀)) accepted

    sound : Sound n
    sound = accepted-note most n list behavior (min (length starts₀) (length ends₀)) accepted

    pub spans-room : PackedRoom most list behavior Dropped starts₀
    spans-room =
        record {
          listed = record {
            text = n.normalized;
            short = (accepted-lengths most n list behavior (min (length starts₀) (length ends₀)) accepted).normalized_short;
            covered = accepted-covers most n list behavior (min (length starts₀) (length ends₀)) accepted;
          };
          unbroken = accepted-whole most n list behavior (min (length starts₀) (length ends₀)) accepted;
          room = omega (arith, fits);
        }

    order : in_order (length n.starts) 0 (starts_of ps) (ends_of ps) ≡ true
    unfolding pieces
    order =
        rw (length-starts n sound)
        (pieces-ordered n.normalized 0 (splits behavior (places_of list))
        (splits-cover n.normalized 0 behavior (places_of list) (accepted-covers most n list behavior (min (length starts₀) (length ends₀)) accepted)))

    pub original_short : length n.original ≤ most
    original_short = (accepted-lengths most n list behavior (min (length starts₀) (length ends₀)) accepted).original_short

    module _ {count : ℕ} {spans : List ℕ} (laid : PackedLaid ps starts₀ count spans) where
      from_is : map span_start (take count spans) ≡ starts_of ps
      from_is = rw (packed-front laid) laid.starts_in

      to_is : map span_end (take count spans) ≡ ends_of ps
      to_is = rw (packed-front laid) laid.ends_in

      pub spans-ready : SpansReady most n.starts n.ends n.original_shift count spans ends₀
      spans-ready =
          let short = accepted-lengths most n list behavior (min (length starts₀) (length ends₀)) accepted in
          record {
            low = short.shift_low;
            few = omega (arith, short.normalized_short, length-starts n sound);
            one_end = length-ends n sound ∙ sym (length-starts n sound);
            starts_room = packed-long laid;
            ends_room = omega (arith, laid.reach, fits);
            ordered = rw (from_is, to_is) order;
          }

      pub listed : {starts ends : List ℕ} → SpansConverted n.original n.starts n.ends n.original_shift side unit count spans ends₀ starts ends → GetSplits most n list behavior side unit starts₀ ends₀ (Ok count) starts ends
      listed c =
          let first = each-pieces (start_number n.original unit) n sound side 0 0 ps order in
          let last = each-pieces (end_number n.original unit) n sound side 0 0 ps order in
          record {
            says = Accepted;
            says_is = sym accepted;
            answer = ap Ok laid.reach;
            starts_are = c.starts_are ∙ rw (from_is, to_is, first, laid.spans_are) (overlay-overlay _ (packed_of ps) starts₀ (length-pieces (start_number n.original unit) n side 0 ps packed_span));
            ends_are = c.ends_are ∙ rw (from_is, to_is, last);
          }
