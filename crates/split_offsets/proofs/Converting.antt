-- Columns of spans that become bytes, one piece after the other: none yet, one more, all of them.
use Prim.Native.Nat.{ℕ, zero, suc, ◌+◌, ◌-◌, ◌≤◌, ◌<◌}
use mathlib.Core.Path.{◌≡◌, ◌∙◌, ap, refl, sym}
use mathlib.Core.Bool.{true, ◌&&◌}
use mathlib.Core.List.{List, [], ◌∷◌, ◌++◌, map}
use mathlib.Mathlib.Data.Bool.Basic.{and_elim_left, and_elim_right}
use native.Mathlib.Numerals.{add-one}
use native.Mathlib.Omega.{arith}
use lib.Dec.{leb, ltb}
use lib.ListN.{length, get_or, set, take, drop, length-map, drop_of_length-le}
use lib.Seq.{drop-cons, get_or-take, length-take-le}
use borrow.Author.Tests.{leb-true, ltb-true}
use Rattle.buffers.proofs.Cases.{clash}
use Rattle.buffers.proofs.Splice.{Laying, none-laid, piece-laid, unwritten, all_laid, store-one}
use Rattle.spans.specs.Packing.{span_start, span_end}
use Rattle.convert.specs.declared.Range.{Range}
use Rattle.convert.specs.Converting.{in_original, in_normalized, range_of, start_of, end_of}
use Rattle.convert.specs.declared.OffsetReferential.{OffsetReferential}
use Rattle.convert.specs.declared.OffsetReferential.TheVariants.{Original, Normalized}
use Rattle.split_offsets.specs.Steps.{from_byte, to_byte, Piece, in_order, each_span, SpansReady, BytesWritten}

-- the bytes of a piece
module _ (starts ends : List ℕ) (shift sum a b : ℕ) {side : OffsetReferential} where
  pub bytes-original : side ≡ Original
      → in_original (shift + get_or starts a 0) (shift + get_or ends (b - 1) 0) ≡ range_of side (from_byte starts shift side sum a) (to_byte ends shift side sum a b)
  unfolding range_of from_byte to_byte
  bytes-original is = rw is

  pub bytes-normalized : side ≡ Normalized
      → in_normalized sum (sum + (b - a)) ≡ range_of side (from_byte starts shift side sum a) (to_byte ends shift side sum a b)
  unfolding range_of from_byte to_byte
  bytes-normalized is = rw is

-- the numbers of a range
range-start : (side : OffsetReferential) (a b : ℕ) → start_of (range_of side a b) ≡ a
unfolding range_of
range-start Original a b = refl
range-start Normalized a b = refl

range-end : (side : OffsetReferential) (a b : ℕ) → end_of (range_of side a b) ≡ b
unfolding range_of
range-end Original a b = refl
range-end Normalized a b = refl

-- the first of pieces in order
pub record First (size at a b : ℕ) (from to : List ℕ) : Type 0 where
  pub behind : at ≤ a
  pub some : a < b
  pub inside : b ≤ size
  pub rest : in_order size b from to ≡ true

pub first-of : (size at a b : ℕ) (from to : List ℕ) → in_order size at (a ∷ from) (b ∷ to) ≡ true → First size at a b from to
unfolding in_order
first-of size at a b from to e =
    let three : (leb at a && ltb a b && leb b size) ≡ true = and_elim_left _ (in_order size b from to) e in
    let two : (leb at a && ltb a b) ≡ true = and_elim_left _ (leb b size) three in
    record {
      behind = leb-true at a (and_elim_left _ (ltb a b) two);
      some = ltb-true a b (and_elim_right (leb at a) _ two);
      inside = leb-true b size (and_elim_right (leb at a && ltb a b) _ three);
      rest = and_elim_right (leb at a && ltb a b && leb b size) _ e;
    }

-- as many numbers as pieces
length-each : (number : ℕ → ℕ → ℕ) (starts ends : List ℕ) (shift : ℕ) (side : OffsetReferential) (sum size at : ℕ) (from to : List ℕ) → in_order size at from to ≡ true → length (each_span number starts ends shift side sum from to) ≡ length from
unfolding each_span in_order
length-each number starts ends shift side sum size at [] to e = refl
length-each number starts ends shift side sum size at (a ∷ from) [] e = clash true refl (sym e)
length-each number starts ends shift side sum size at (a ∷ from) (b ∷ to) e =
    ap suc (length-each number starts ends shift side (sum + (b - a)) size b from to (first-of size at a b from to e).rest)

-- an element of a column whose numbers become others
get_d_map : (f : ℕ → ℕ) (xs : List ℕ) (k : ℕ) → k < length xs → get_or (map f xs) k 0 ≡ f (get_or xs k 0)
get_d_map f [] k h = absurd (omega arith)
get_d_map f (x ∷ xs) zero h = refl
get_d_map f (x ∷ xs) (suc k) h = get_d_map f xs k (omega arith)

abbrev firsts : ℕ → List ℕ → List ℕ
firsts count spans = map span_start (take count spans)

abbrev lasts : ℕ → List ℕ → List ℕ
lasts count spans = map span_end (take count spans)

-- what is written of the first `count` pieces
pub record Converting (most : ℕ) (starts ends : List ℕ) (shift : ℕ) (side : OffsetReferential) (count : ℕ) (spans₀ to₀ : List ℕ) (sum k : ℕ) (from to : List ℕ) : Type 0 where
  pub at : ℕ
  pub behind : sum ≤ at
  pub few : k ≤ count
  pub ordered : in_order (length starts) at (drop k (firsts count spans₀)) (drop k (lasts count spans₀)) ≡ true
  pub starts_laid : Laying (each_span (λ a e. a) starts ends shift side 0 (firsts count spans₀) (lasts count spans₀)) (each_span (λ a e. a) starts ends shift side sum (drop k (firsts count spans₀)) (drop k (lasts count spans₀))) spans₀ k from
  pub ends_laid : Laying (each_span (λ a e. e) starts ends shift side 0 (firsts count spans₀) (lasts count spans₀)) (each_span (λ a e. e) starts ends shift side sum (drop k (firsts count spans₀)) (drop k (lasts count spans₀))) to₀ k to

module _ {most : ℕ} {starts ends : List ℕ} {shift count : ℕ} {spans₀ to₀ : List ℕ} (r : SpansReady most starts ends shift count spans₀ to₀) where
  spans-long : length (take count spans₀) ≡ count
  spans-long = length-take-le count spans₀ r.starts_room

  column-long : (f : ℕ → ℕ) → length (map f (take count spans₀)) ≡ count
  column-long f = length-map (take count spans₀) f ∙ spans-long

  pub spans-size : (number : ℕ → ℕ → ℕ) (side : OffsetReferential) → length (each_span number starts ends shift side 0 (firsts count spans₀) (lasts count spans₀)) ≡ count
  spans-size number side = length-each number starts ends shift side 0 (length starts) 0 (firsts count spans₀) (lasts count spans₀) r.ordered ∙ column-long span_start

  pub none-converted : (side : OffsetReferential) → Converting most starts ends shift side count spans₀ to₀ 0 0 spans₀ to₀
  none-converted side =
      record {
        at = 0;
        behind = omega arith;
        few = omega arith;
        ordered = r.ordered;
        starts_laid = none-laid _ spans₀ (omega (arith, spans-size (λ a e. a) side, r.starts_room));
        ends_laid = none-laid _ to₀ (omega (arith, spans-size (λ a e. e) side, r.ends_room));
      }

  module _ {side : OffsetReferential} {sum k : ℕ} {from to : List ℕ} (c : Converting most starts ends shift side count spans₀ to₀ sum k from to) where
    -- where the loop is over
    pub all-converted : count ≤ k → BytesWritten starts ends shift side count spans₀ to₀ from to
    unfolding each_span
    all-converted done =
        let none : drop k (firsts count spans₀) ≡ [] = drop_of_length-le (firsts count spans₀) {i = k} (omega (arith, column-long span_start)) in
        record {
          starts_are = all_laid _ spans₀ k from (rw none at c.starts_laid);
          ends_are = all_laid _ to₀ k to (rw none at c.ends_laid);
        }

    module _ (more : k < count) where
      pub in-columns : (k < length from) × (k < length to)
      in-columns = (omega (arith, c.starts_laid.same, r.starts_room), omega (arith, c.ends_laid.same, r.ends_room))

      column-here : (f : ℕ → ℕ) → drop k (map f (take count spans₀)) ≡ f (get_or from k 0) ∷ drop (k + 1) (map f (take count spans₀))
      column-here f =
          drop-cons (map f (take count spans₀)) k 0 (omega (arith, column-long f))
          ∙ rw (get_d_map f (take count spans₀) k (omega (arith, spans-long)), get_or-take count spans₀ k 0 more, ← unwritten c.starts_laid, add-one k)

      module _ {a b : ℕ} (starting : a ≡ span_start (get_or from k 0)) (ending : b ≡ span_end (get_or from k 0)) where
        from-here : drop k (firsts count spans₀) ≡ a ∷ drop (k + 1) (firsts count spans₀)
        from-here = rw starting (column-here span_start)

        to-here : drop k (lasts count spans₀) ≡ b ∷ drop (k + 1) (lasts count spans₀)
        to-here = rw ending (column-here span_end)

        here : First (length starts) c.at a b (drop (k + 1) (firsts count spans₀)) (drop (k + 1) (lasts count spans₀))
        here = first-of (length starts) c.at a b _ _ (rw (from-here, to-here) at c.ordered)

        pub piece-here : Piece most starts ends shift sum a b
        piece-here =
            record {
              some = here.some;
              behind = omega (arith, c.behind, here.behind);
              in_starts = here.inside;
              in_ends = omega (arith, here.inside, r.one_end);
              few = r.few;
              low = r.low;
            }

        each-here : (number : ℕ → ℕ → ℕ)
            → each_span number starts ends shift side sum (drop k (firsts count spans₀)) (drop k (lasts count spans₀))
            ≡ (number (from_byte starts shift side sum a) (to_byte ends shift side sum a b) ∷ [])
            ++ each_span number starts ends shift side (sum + (b - a)) (drop (k + 1) (firsts count spans₀)) (drop (k + 1) (lasts count spans₀))
        unfolding each_span
        each-here number = rw (from-here, to-here)

        pub one-converted : {bytes : Range} {x y : ℕ} → bytes ≡ range_of side (from_byte starts shift side sum a) (to_byte ends shift side sum a b)
            → x ≡ start_of bytes → y ≡ end_of bytes
            → Converting most starts ends shift side count spans₀ to₀ (sum + (b - a)) (k + 1) (set from k x) (set to k y)
        one-converted {x = x} {y = y} is at-start at-end =
            let start : x ≡ from_byte starts shift side sum a = at-start ∙ ap start_of is ∙ range-start side _ _ in
            let end : y ≡ to_byte ends shift side sum a b = at-end ∙ ap end_of is ∙ range-end side _ _ in
            record {
              at = b;
              behind = omega (arith, c.behind, here.behind, here.some);
              few = omega arith;
              ordered = here.rest;
              starts_laid =
                  piece-laid _ (x ∷ []) _ spans₀ k from
                  (rw (each-here (λ a e. a), ← start) at c.starts_laid) (k + 1) (set from k x) refl (store-one from k x in-columns.0);
              ends_laid =
                  piece-laid _ (y ∷ []) _ to₀ k to
                  (rw (each-here (λ a e. e), ← end) at c.ends_laid) (k + 1) (set to k y) refl (store-one to k y in-columns.1);
            }
