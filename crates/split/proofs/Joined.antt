-- Laws of `endToEnd`: what pieces give, one after the other, and a column that is being written piece by piece.
use Prim.Native.Nat.{ℕ, suc, ◌+◌, ◌-◌, ◌≤◌, ◌<◌}
use mathlib.Core.Path.{◌≡◌, ◌∙◌, ap, refl, sym}
use mathlib.Core.List.{List, [], ◌∷◌, ◌++◌}
use native.Mathlib.Numerals.{add-one}
use native.Mathlib.Omega.{arith}
use lib.ListN.{length, get_or, set, take, drop, length-append, drop_of_length-le}
use lib.Seq.{drop-cons}
use borrow.Author.Tests.{eq-eqb, ne_eqb}
use Rattle.buffers.specs.Splice.{part, splice, overlay}
use Rattle.buffers.specs.Over.{Over, Reaching}
use Rattle.buffers.proofs.Splice.{length_part, part-index, part-front, store-one}
use Rattle.buffers.proofs.Over.{over-exact, over-front, through, none-reached, run-reached, all-reached}
use Rattle.slice.specs.Slicing.{lowered}
use Rattle.slice.specs.Writing.{Lowerable}
use Rattle.slice.proofs.Lowered.{length-lowered, part-lowered}
use Rattle.split.specs.PieceSlices.{bytes_before}
use Rattle.split.specs.Writing.{from_start, to_end, shift_of, length_of, lowered_column, end_to_end, RangeInside, ShiftsRoom, LengthsRoom, PieceColumnRoom, ColumnsRoom, ColumnsLaid, LoweredBlockRoom, LoweredRoom, BothRoom}

-- one range: by the code's test
module _ (starts : List ℕ) (a b : ℕ) where
  pub start-empty : a ≡ b → a ≡ from_start starts a b
  unfolding from_start
  start-empty e = rw (eq-eqb a b e)

  pub start-read : (a ≡ b → ⊥) → get_or starts a 0 ≡ from_start starts a b
  unfolding from_start
  start-read e = rw (ne_eqb a b e)

  pub end_empty : a ≡ b → b ≡ to_end starts a b
  unfolding to_end
  end_empty e = rw (eq-eqb a b e)

  pub end_read : (a ≡ b → ⊥) → get_or starts (b - 1) 0 ≡ to_end starts a b
  unfolding to_end
  end_read e = rw (ne_eqb a b e)

-- the next piece, and those after it
pub joined_step : (f : ℕ → ℕ → List ℕ) (from to : List ℕ) (k : ℕ) → length from ≡ length to → k < length from → end_to_end f (drop k from) (drop k to) ≡ f (get_or from k 0) (get_or to k 0) ++ end_to_end f (drop (k + 1) from) (drop (k + 1) to)
unfolding end_to_end
joined_step f from to k e h = rw (drop-cons from k 0 h, drop-cons to k 0 (omega arith), add-one k)

pub joined-none : (f : ℕ → ℕ → List ℕ) (from to : List ℕ) (k : ℕ) → length from ≤ k → end_to_end f (drop k from) (drop k to) ≡ []
unfolding end_to_end
joined-none f from to k h = rw (drop_of_length-le from h)

-- what the first k pieces give is in front of a column, up to `at`
pub record Going (f : ℕ → ℕ → List ℕ) (from to out₀ : List ℕ) (at k : ℕ) (out : List ℕ) : Type 0 where
  pub most : k ≤ length from
  pub laid : Reaching (end_to_end f from to) (end_to_end f (drop k from) (drop k to)) out₀ at out

pub none_going : (f : ℕ → ℕ → List ℕ) (from to out₀ : List ℕ) → length (end_to_end f from to) ≤ length out₀ → Going f from to out₀ 0 0 out₀
none_going f from to out₀ h = record { most = omega arith; laid = none-reached (end_to_end f from to) out₀ h }

module _ (f : ℕ → ℕ → List ℕ) {from to out₀ : List ℕ} {at k : ℕ} {out : List ℕ} (g : Going f from to out₀ at k out) where
  module _ (pair : length from ≡ length to) (h : k < length from) where
    here : Reaching (end_to_end f from to) (f (get_or from k 0) (get_or to k 0) ++ end_to_end f (drop (k + 1) from) (drop (k + 1) to)) out₀ at out
    here = rw (joined_step f from to k pair h) at g.laid

    pub going-room : at + length (f (get_or from k 0) (get_or to k 0)) ≤ length out
    going-room = omega (arith, here.room, length-append (f (get_or from k 0) (get_or to k 0)) (end_to_end f (drop (k + 1) from) (drop (k + 1) to)))

    pub going_on : {until at₁ : ℕ} {out₁ : List ℕ} → until ≤ length (end_to_end f from to) → at₁ ≡ at + length (f (get_or from k 0) (get_or to k 0)) → Over (f (get_or from k 0) (get_or to k 0)) out at until out₁ → Going f from to out₀ at₁ (k + 1) out₁
    going_on below reach is =
        record {
          most = omega arith;
          laid = run-reached (f (get_or from k 0) (get_or to k 0)) (end_to_end f (drop (k + 1) from) (drop (k + 1) to)) here below reach is;
        }

  pub all-gone : length from ≤ k → out ≡ overlay (end_to_end f from to) out₀
  all-gone h = all-reached (rw (joined-none f from to k h) at g.laid)

-- where each piece gives one number
ones : (f : ℕ → ℕ → List ℕ) → ((a b : ℕ) → length (f a b) ≡ 1) → (from to : List ℕ) → length from ≡ length to → length (end_to_end f from to) ≡ length from
unfolding end_to_end
ones f one [] to e = refl
ones f one (a ∷ from) [] e = absurd (omega arith)
ones f one (a ∷ from) (b ∷ to) e = length-append (f a b) (end_to_end f from to) ∙ omega (arith, one a b, ones f one from to (omega arith))

module _ {most : ℕ} {starts from to : List ℕ} {shift : ℕ} {out₀ : List ℕ} (r : ShiftsRoom most starts from to shift out₀) where
  pub none-shifted : Going (shift_of starts shift) from to out₀ 0 0 out₀
  unfolding shift_of
  none-shifted = none_going (shift_of starts shift) from to out₀ (omega (arith, r.room, ones (shift_of starts shift) (λ a b. refl) from to r.spans.paired))

  pub next-shifted : {k : ℕ} {out : List ℕ} {x : ℕ} → Going (shift_of starts shift) from to out₀ k k out → k < length from → x ≡ from_start starts (get_or from k 0) (get_or to k 0) → Going (shift_of starts shift) from to out₀ (k + 1) (k + 1) (set out k (shift + x))
  unfolding shift_of
  next-shifted {k} {out} g h is =
      let room : k < length out = omega (arith, going-room (shift_of starts shift) g r.spans.paired h) in
      going_on (shift_of starts shift) g r.spans.paired h {until = 0} (omega arith) refl (over-exact _ out k 0 (omega arith) (rw is (store-one out k _ room)))

module _ {starts ends from to out₀ : List ℕ} (r : LengthsRoom starts ends from to out₀) where
  pub none-measured : Going (length_of starts ends) from to out₀ 0 0 out₀
  unfolding length_of
  none-measured = none_going (length_of starts ends) from to out₀ (omega (arith, r.room, ones (length_of starts ends) (λ a b. refl) from to r.spans.paired))

  pub next-measured : {k : ℕ} {out : List ℕ} {x y : ℕ} → Going (length_of starts ends) from to out₀ k k out → k < length from
      → y ≡ to_end ends (get_or from k 0) (get_or to k 0) → x ≡ from_start starts (get_or from k 0) (get_or to k 0)
      → Going (length_of starts ends) from to out₀ (k + 1) (k + 1) (set out k (y - x))
  unfolding length_of
  next-measured {k} {out} g h end start =
      let room : k < length out = omega (arith, going-room (length_of starts ends) g r.spans.paired h) in
      going_on (length_of starts ends) g r.spans.paired h {until = 0} (omega arith) refl (over-exact _ out k 0 (omega arith) (rw (end, start) (store-one out k _ room)))

-- a stretch of a column: its room, for a block too, and what is laid
module _ {column : List ℕ} {from to base : ℕ} {out : List ℕ} {at until : ℕ} (r : LoweredRoom column from to base out at until) where
  pub stretch-lowerable : Lowerable (part column from to) base out at
  stretch-lowerable =
      let long : length (part column from to) ≡ to - from = length_part column from to r.source.inside in
      record {
        room = omega (arith, r.source.room);
        above = λ i below.
            let low : i < to - from = omega (arith, long) in
            rw (part-index column from to i low) (r.above (omega arith) (from + i) (omega arith) (omega (arith, r.source.inside)));
      }

  pub stretch-exact : {out₁ : List ℕ} → out₁ ≡ splice out at (lowered base (part column from to)) → Over (lowered base (part column from to)) out at until out₁
  stretch-exact is =
      over-exact _ out at until (omega (arith, r.source.room, length-lowered base (part column from to), length_part column from to r.source.inside)) is

  module _ (some : from < to) (inside : 16 ≤ length column - from) (below : at + 16 ≤ until) where
    pub block_room : LoweredBlockRoom column from base out at
    block_room =
        record { inside = omega (arith, r.source.inside); room = omega (arith, r.source.until_room); above = r.above some }

    pub stretch-block : {out₁ : List ℕ} → to - from ≤ 16 → out₁ ≡ splice out at (lowered base (part column from (from + 16))) → Over (lowered base (part column from to)) out at until out₁
    stretch-block few is =
        let long : length (lowered base (part column from (from + 16))) ≡ 16 = length-lowered base (part column from (from + 16)) ∙ length_part column from (from + 16) block_room.inside ∙ omega arith in
        let front : take (to - from) (lowered base (part column from (from + 16))) ≡ lowered base (part column from to) = ap (take (to - from)) (sym (part-lowered base column from (from + 16))) ∙ part-front (lowered base column) from to (from + 16) (omega arith) ∙ part-lowered base column from to in
        rw front at (over-front (to - from) (over-exact _ out at until (omega (arith, block_room.room)) is) (omega arith) (omega (arith, block_room.room)) (omega arith))

-- a block through a local array
module _ {column : List ℕ} {i base : ℕ} {out : List ℕ} {at : ℕ} (r : LoweredBlockRoom column i base out at) where
  block-long : length (part column i (i + 16)) ≡ 16
  block-long = length_part column i (i + 16) r.inside ∙ omega arith

  pub block-lowerable : (block : List ℕ) → length block ≡ 16 → Lowerable (part column i (i + 16)) base block 0
  block-lowerable block e =
      record {
        room = omega (arith, block-long);
        above = λ j below.
            let low : j < i + 16 - i = omega (arith, block-long) in
            rw (part-index column i (i + 16) j low) (r.above (i + j) (omega arith) (omega (arith, r.inside)));
      }

  pub block-through : (block₀ : List ℕ) {block out₁ : List ℕ} → length block₀ ≡ 16 → block ≡ splice block₀ 0 (lowered base (part column i (i + 16))) → out₁ ≡ splice out at block → out₁ ≡ splice out at (lowered base (part column i (i + 16)))
  block-through block₀ e local is = through _ out at block₀ (omega (arith, length-lowered base (part column i (i + 16)), block-long)) local is

-- a column, piece by piece
module _ {starts column from to : List ℕ} {until : ℕ} {out₀ : List ℕ} (r : PieceColumnRoom starts column from to until out₀) {at k : ℕ} {out : List ℕ}
    (g : Going (lowered_column starts column) from to out₀ at k out) (h : k < length from) {base : ℕ}
    (is : base ≡ from_start starts (get_or from k 0) (get_or to k 0)) where
  long : length (lowered_column starts column (get_or from k 0) (get_or to k 0)) ≡ get_or to k 0 - get_or from k 0
  unfolding lowered_column
  long =
      length-lowered (from_start starts (get_or from k 0) (get_or to k 0)) (part column (get_or from k 0) (get_or to k 0))
      ∙ length_part column (get_or from k 0) (get_or to k 0) (omega (arith, (r.spans.each k h).most, r.one_each))

  pub stretch-room : LoweredRoom column (get_or from k 0) (get_or to k 0) base out at until
  stretch-room =
      record {
        source = record {
          onward = (r.spans.each k h).forward;
          inside = omega (arith, (r.spans.each k h).most, r.one_each);
          room = omega (arith, long, going-room (lowered_column starts column) g r.spans.paired h);
          until_room = omega (arith, r.below, r.room, g.laid.same);
        };
        above = λ some j low high. rw is (r.above k j h some low high);
      }

  pub next-stretch : {out₁ : List ℕ} → Over (lowered base (part column (get_or from k 0) (get_or to k 0))) out at until out₁ → Going (lowered_column starts column) from to out₀ (at + (get_or to k 0 - get_or from k 0)) (k + 1) out₁
  unfolding lowered_column
  next-stretch w = going_on (lowered_column starts column) g r.spans.paired h r.below (rw long) (rw is at w)

-- all four
pub record AllGoing (starts ends from to : List ℕ) (shift : ℕ) (shifts₀ lengths₀ out_starts₀ out_ends₀ : List ℕ) (at k : ℕ) (shifts lengths out_starts out_ends : List ℕ) : Type 0 where
  pub shifts_on : Going (shift_of starts shift) from to shifts₀ k k shifts
  pub lengths_on : Going (length_of starts ends) from to lengths₀ k k lengths
  pub starts_on : Going (lowered_column starts starts) from to out_starts₀ at k out_starts
  pub ends_on : Going (lowered_column starts ends) from to out_ends₀ at k out_ends

module _ {most : ℕ} {starts ends from to : List ℕ} {shift until : ℕ} {shifts₀ lengths₀ out_starts₀ out_ends₀ : List ℕ} (r : ColumnsRoom most starts ends from to shift until shifts₀ lengths₀ out_starts₀ out_ends₀) where
  pub none-gone : AllGoing starts ends from to shift shifts₀ lengths₀ out_starts₀ out_ends₀ 0 0 shifts₀ lengths₀ out_starts₀ out_ends₀
  none-gone =
      record {
        shifts_on = none-shifted r.shifts_room;
        lengths_on = none-measured r.lengths_room;
        starts_on = none_going _ _ _ _ r.starts_room.room;
        ends_on = none_going _ _ _ _ r.ends_room.room;
      }

  module _ {at k : ℕ} {shifts lengths out_starts out_ends : List ℕ} (g : AllGoing starts ends from to shift shifts₀ lengths₀ out_starts₀ out_ends₀ at k shifts lengths out_starts out_ends) where
    pub piece-room : k < length from → {start : ℕ} → start ≡ from_start starts (get_or from k 0) (get_or to k 0) → BothRoom starts ends (get_or from k 0) (get_or to k 0) start out_starts out_ends at until
    piece-room h is =
        record {
          one_end = r.lengths_room.one_end;
          starts_room = stretch-room r.starts_room g.starts_on h is;
          ends_room = stretch-room r.ends_room g.ends_on h is;
        }

    pub next-gone : k < length from → {start end : ℕ} → start ≡ from_start starts (get_or from k 0) (get_or to k 0) → end ≡ to_end ends (get_or from k 0) (get_or to k 0) → {out_starts₁ out_ends₁ : List ℕ}
        → Over (lowered start (part starts (get_or from k 0) (get_or to k 0))) out_starts at until out_starts₁ × Over (lowered start (part ends (get_or from k 0) (get_or to k 0))) out_ends at until out_ends₁
        → AllGoing starts ends from to shift shifts₀ lengths₀ out_starts₀ out_ends₀ (at + (get_or to k 0 - get_or from k 0)) (k + 1) (set shifts k (shift + start)) (set lengths k (end - start)) out_starts₁ out_ends₁
    next-gone h start end laid =
        record {
          shifts_on = next-shifted r.shifts_room g.shifts_on h start;
          lengths_on = next-measured r.lengths_room g.lengths_on h end start;
          starts_on = next-stretch r.starts_room g.starts_on h start laid.0;
          ends_on = next-stretch r.ends_room g.ends_on h start laid.1;
        }

    pub all_laid : length from ≤ k → ColumnsLaid starts ends from to shift shifts₀ lengths₀ out_starts₀ out_ends₀ shifts lengths out_starts out_ends
    all_laid done =
        record {
          shifts_are = all-gone _ g.shifts_on done;
          lengths_are = all-gone _ g.lengths_on done;
          starts_are = all-gone _ g.starts_on done;
          ends_are = all-gone _ g.ends_on done;
        }

-- THE BYTES OF PIECES
pub record Adding (from to : List ℕ) (sum k : ℕ) : Type 0 where
  pub most : k ≤ length from
  pub total : sum + bytes_before (drop k from) (drop k to) (length from - k) ≡ bytes_before from to (length from)

pub none-added : (from to : List ℕ) → Adding from to 0 0
none-added from to =
    let all : length from - 0 ≡ length from = omega arith in
    record { most = omega arith; total = rw all (omega arith) }

module _ {from to : List ℕ} {sum k : ℕ} (a : Adding from to sum k) where
  pub one-added : length from ≡ length to → k < length from → Adding from to (sum + (get_or to k 0 - get_or from k 0)) (k + 1)
  unfolding bytes_before
  one-added pair h =
      let left : length from - k ≡ suc (length from - (k + 1)) = omega arith in
      let step : bytes_before (drop k from) (drop k to) (length from - k) ≡ (get_or to k 0 - get_or from k 0) + bytes_before (drop (k + 1) from) (drop (k + 1) to) (length from - (k + 1)) = rw (left, drop-cons from k 0 h, drop-cons to k 0 (omega arith), add-one k) in
      record { most = omega arith; total = omega (arith, a.total, step) }

  pub all-added : length from ≤ k → sum ≡ bytes_before from to (length from)
  unfolding bytes_before
  all-added done =
      let none : length from - k ≡ 0 = omega arith in
      let z : sum + 0 ≡ bytes_before from to (length from) = rw none at a.total in
      omega arith

-- a range of one column is one of another that is as long
pub inside_of : {size other a b : ℕ} → RangeInside size a b → other ≡ size → RangeInside other a b
inside_of i e = rw e i
