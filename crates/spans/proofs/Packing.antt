-- Laws of `packedSpan`: its two ends are read back; a column of numbers that is taken apart.
use Prim.Native.Nat.{ℕ, ◌+◌, ◌^◌, ◌≤◌, ◌<◌}
use mathlib.Core.Path.{◌≡◌, ◌∙◌, refl, sym}
use mathlib.Core.Bool.{true}
use mathlib.Core.List.{List, [], ◌∷◌, map}
use native.Mathlib.Numerals.{add-one}
use native.Mathlib.Omega.{arith}
use lib.ListN.{length, get_or, set, take, drop, length-map, drop_of_length-le}
use lib.Seq.{drop-cons}
use Rattle.buffers.proofs.Cases.{true-or-false}
use Rattle.buffers.proofs.Splice.{Laying, none-laid, piece-laid, all_laid, store-one, take-overlay, overlay-long}
use Rattle.pattern.specs.declared.Place.{Place}
use Rattle.pattern.specs.Places.{covers_from}
use Rattle.pattern.proofs.Places.{Span, covers-span, covers-rest}
use Rattle.behaviors.specs.declared.SplitDelimiterBehavior.{SplitDelimiterBehavior}
use Rattle.behaviors.specs.declared.SplitDelimiterBehavior.TheVariants.{Isolated}
use Rattle.behaviors.specs.declared.EmptyPieces.{EmptyPieces}
use Rattle.behaviors.specs.Splits.{splits, is_piece, remaining, pieces}
use Rattle.behaviors.specs.Joining.{starts_of, ends_of}
use Rattle.behaviors.specs.Runs.{list_pieces, Listed}
use Rattle.behaviors.proofs.Gathered.{splits-cover}
use Rattle.spans.specs.Packing.{base, packed_span, span_start, span_end, packed_of, PackedRoom, PackedLaid, UnpackRoom, Unpacked, SpansLaid}

-- the ends of a piece of a text that is not too long
start_back : (p : Place) → p.start.0 < base → span_start (packed_span p) ≡ p.start.0
unfolding span_start packed_span
start_back p h = omega arith

end_back : (p : Place) → p.start.0 < base → span_end (packed_span p) ≡ p.end.0
unfolding span_end packed_span
end_back p h = omega arith

ends-back : (text : List ℕ) → length text < base → (e : EmptyPieces) (at : ℕ) (qs : List Place) → covers_from text at qs ≡ true → (map span_start (packed_of (remaining e qs)) ≡ starts_of (remaining e qs)) × (map span_end (packed_of (remaining e qs)) ≡ ends_of (remaining e qs))
unfolding remaining
ends-back text short e at [] c = (refl, refl)
ends-back text short e at (p ∷ qs) c =
    let span : Span text at p = covers-span text at p qs c in
    let low : p.start.0 < base = omega (arith, span.from, span.onward, span.inside) in
    let rest = ends-back text short e p.end.0 qs (covers-rest text at p qs c) in
    true-or-false (is_piece e p)
    (λ t. rw (t, start_back p low, end_back p low, rest.0, rest.1) (refl, refl))
    (λ f. rw f rest)

pub pieces-back : {most : ℕ} {list : List ℕ} → Listed most list → most < base → (b : SplitDelimiterBehavior) (e : EmptyPieces) → (map span_start (packed_of (list_pieces b e list)) ≡ starts_of (list_pieces b e list)) × (map span_end (packed_of (list_pieces b e list)) ≡ ends_of (list_pieces b e list))
unfolding pieces
pieces-back {list = list} l low b e = ends-back l.text (omega (arith, l.short)) e 0 (splits b _) (splits-cover l.text 0 b _ l.covered)

-- TAKEN APART, number by number
pub record Unpacking (spans starts₀ ends₀ : List ℕ) (k : ℕ) (starts ends : List ℕ) : Type 0 where
  pub few : k ≤ length spans
  pub starts_laid : Laying (map span_start spans) (map span_start (drop k spans)) starts₀ k starts
  pub ends_laid : Laying (map span_end spans) (map span_end (drop k spans)) ends₀ k ends

pub none-unpacked : {spans starts ends : List ℕ} → UnpackRoom spans starts ends → Unpacking spans starts ends 0 starts ends
none-unpacked {spans} r =
    record {
      few = omega arith;
      starts_laid = none-laid _ _ (rw (length-map spans span_start) r.starts_room);
      ends_laid = none-laid _ _ (rw (length-map spans span_end) r.ends_room);
    }

-- one column
column-more : (f : ℕ → ℕ) (spans : List ℕ) {d₀ d : List ℕ} {k x : ℕ} → Laying (map f spans) (map f (drop k spans)) d₀ k d → k < length spans → k < length d → x ≡ f (get_or spans k 0) → Laying (map f spans) (map f (drop (k + 1) spans)) d₀ (k + 1) (set d k x)
column-more f spans {d₀} {d} {k} {x} l h room is =
    let here : drop k spans ≡ get_or spans k 0 ∷ drop (k + 1) spans = drop-cons spans k 0 h ∙ rw (add-one k) in
    piece-laid (map f spans) (x ∷ []) (map f (drop (k + 1) spans)) d₀ k d (rw (here, ← is) at l) (k + 1) (set d k x) refl (store-one d k x room)

module _ {spans starts₀ ends₀ : List ℕ} {k : ℕ} {starts ends : List ℕ} (r : UnpackRoom spans starts₀ ends₀) (u : Unpacking spans starts₀ ends₀ k starts ends) where
  pub unpack-room : k < length spans → (k < length starts) × (k < length ends)
  unpack-room h = (omega (arith, r.starts_room, u.starts_laid.same), omega (arith, r.ends_room, u.ends_laid.same))

  pub one-unpacked : k < length spans → {a z : ℕ} → a ≡ span_start (get_or spans k 0) → z ≡ span_end (get_or spans k 0) → Unpacking spans starts₀ ends₀ (k + 1) (set starts k a) (set ends k z)
  one-unpacked h a z =
      record {
        few = omega arith;
        starts_laid = column-more span_start spans u.starts_laid h (unpack-room h).0 a;
        ends_laid = column-more span_end spans u.ends_laid h (unpack-room h).1 z;
      }

  pub all-unpacked : length spans ≤ k → Unpacked spans starts₀ ends₀ starts ends
  all-unpacked done =
      let none : drop k spans ≡ [] = drop_of_length-le spans {i = k} done in
      record {
        starts_are = all_laid _ _ k starts (rw none at u.starts_laid);
        ends_are = all_laid _ _ k ends (rw none at u.ends_laid);
      }

-- the pieces, from their numbers
module _ {ps : List Place} {spans₀ spans : List ℕ} {r : ℕ} (l : PackedLaid ps spans₀ r spans) where
  count_is : length (packed_of ps) ≡ r
  count_is = length-map ps packed_span ∙ sym l.reach

  pub packed-long : r ≤ length spans
  packed-long = rw (← count_is, l.spans_are) (overlay-long (packed_of ps) spans₀)

  pub packed-front : take r spans ≡ packed_of ps
  packed-front = rw (← count_is, l.spans_are) (take-overlay (packed_of ps) spans₀)

  pub unpackable : {starts ends : List ℕ} → length ps ≤ length starts → length ps ≤ length ends → UnpackRoom (take r spans) starts ends
  unpackable s e = rw packed-front (record { starts_room = omega (arith, count_is, l.reach); ends_room = omega (arith, count_is, l.reach) })

  pub spans-laid : {starts₀ ends₀ starts ends : List ℕ} → Unpacked (take r spans) starts₀ ends₀ starts ends → SpansLaid ps spans₀ starts₀ ends₀ r spans starts ends
  spans-laid u =
      record {
        reach = l.reach;
        spans_are = l.spans_are;
        starts_are = u.starts_are ∙ rw (packed-front, l.starts_in);
        ends_are = u.ends_are ∙ rw (packed-front, l.ends_in);
      }

-- both ends fit into 16 bits
pub start_small : (span : ℕ) {a : ℕ} → a ≡ span_start span → a < base
unfolding span_start
start_small span is = omega arith

pub end-small : (span : ℕ) {z : ℕ} → z ≡ span_end span → span < 2 ^ 32 → z < base
unfolding span_end
end-small span is low = omega arith

-- the behaviour under which each place is a piece
pub room-isolated : {most : ℕ} {list : List ℕ} {b : SplitDelimiterBehavior} {e : EmptyPieces} {spans : List ℕ} → b ≡ Isolated → PackedRoom most list b e spans → PackedRoom most list Isolated e spans
room-isolated is r = rw is at r

pub laid-isolated : (list : List ℕ) {b : SplitDelimiterBehavior} (e : EmptyPieces) {spans₀ spans : List ℕ} {r : ℕ} → b ≡ Isolated → PackedLaid (list_pieces Isolated e list) spans₀ r spans → PackedLaid (list_pieces b e list) spans₀ r spans
laid-isolated list e is l = rw is l
