-- The answers of a list as they are written into three columns, the first of which is 0 from the beginning.
use Prim.Native.Nat.{ℕ, ◌+◌, ◌-◌, ◌≤◌, ◌<◌, min}
use mathlib.Core.Path.{◌≡◌, ◌∙◌, ap, refl, sym}
use mathlib.Core.List.{List}
use native.Mathlib.Omega.{arith}
use lib.ListN.{length, get_or, set, replicate, length-replicate, get_or-replicate}
use Rattle.std.specs.Prelude.{Result, Ok}
use Rattle.buffers.specs.Splice.{part, splice, overlay}
use Rattle.buffers.specs.Columns.{Filled}
use Rattle.buffers.proofs.Columns.{length-column, none_filled, filled-up, filled-kept, filled-after, filled_at, filled-as, Filling, none-filling, all-filling}
use Rattle.buffers.proofs.Splice.{length_part, part_at, splice-overlay, length-overlay, getD-overlay, overlay-overlay}
use Rattle.convert.specs.Converting.{in_original, start_in, end_in, number_in, converted}
use Rattle.convert.specs.Blocks.{OrderedColumns}
use Rattle.convert.specs.declared.OffsetReferential.{OffsetReferential}
use Rattle.convert_list.specs.ConvertList.{answer_at}
use Rattle.convert_list.proofs.TwoReads.{expandable-most, expanding-most, answer-reads}
use Rattle.convert_list.specs.TwoReads.{expandable, Expanding, AnswerRoom, AnsweredBetween, AnswersWritten, RangesBetween, BlockRead, Readable}
use Rattle.convert.specs.declared.Range.{Range}
use Rattle.note.specs.declared.Refusal.{Refusal}

-- the numbers before the first answer
module _ (n : ℕ) (n₀ : List ℕ) {z : List ℕ} (room : n ≤ length n₀) (is : z ≡ splice n₀ 0 (replicate n 0)) where
  abbrev zeros : List ℕ
  zeros = replicate n 0

  long : length zeros ≡ n
  long = length-replicate n 0

  zeroed : z ≡ overlay zeros n₀
  zeroed = is ∙ splice-overlay n₀ zeros

  pub zeros-long : length z ≡ length n₀
  zeros-long = ap length zeroed ∙ length-overlay zeros n₀ (omega (arith, long))

  zeros-are : (k : ℕ) → k < n → get_or z k 0 ≡ 0
  zeros-are k h =
      ap (λ (x : List ℕ). get_or x k 0) zeroed ∙ getD-overlay zeros n₀ k (omega (arith, long)) ∙ get_or-replicate n k 0 0 h

  -- what is written over them might as well be written over what they were
  over_zeros : (x : List ℕ) → length x ≡ n → overlay x z ≡ overlay x n₀
  over_zeros x e = ap (overlay x) zeroed ∙ overlay-overlay x zeros n₀ (e ∙ sym long)

pub zeroed-room : {from to : List ℕ} (n₀ : List ℕ) {z s₀ e₀ : List ℕ} → AnswerRoom from to n₀ s₀ e₀ → z ≡ splice n₀ 0 (replicate (length from) 0) → AnswerRoom from to z s₀ e₀
zeroed-room {from} n₀ room is =
    record {
      same = room.same;
      of_numbers = omega (arith, room.of_numbers, zeros-long (length from) n₀ room.of_numbers is);
      of_starts = room.of_starts;
      of_ends = room.of_ends;
    }

-- i ranges of a block are read
pub record Reading (starts ends from to : List ℕ) (at : ℕ) (s₀ e₀ s e : List ℕ) (i : ℕ) : Type 0 where
  pub most : i ≤ length from
  pub starts_so : Filled (λ k. get_or starts (get_or from (k - at) 0) 0) s₀ at (at + i) s
  pub ends_so : Filled (λ k. get_or ends (get_or to (k - at) 0 - 1) 0) e₀ at (at + i) e

pub none_read : {starts ends from to : List ℕ} {at : ℕ} {s e : List ℕ} → Reading starts ends from to at s e s e 0
none_read {at = at} =
    let here : at ≡ at + 0 = omega arith in
    record { most = omega arith; starts_so = filled_at _ _ _ _ _ _ _ (none_filled _ _ at) refl here; ends_so = filled_at _ _ _ _ _ _ _ (none_filled _ _ at) refl here }

module _ {starts ends from to : List ℕ} {at : ℕ} {s₀ e₀ s e : List ℕ} {i : ℕ} (w : Reading starts ends from to at s₀ e₀ s e i) where
  pub one-read : {x y : ℕ} → Readable starts ends from to at s₀ e₀ → i < length from → x ≡ get_or starts (get_or from i 0) 0 → y ≡ get_or ends (get_or to i 0 - 1) 0 → Reading starts ends from to at s₀ e₀ (set s (at + i) x) (set e (at + i) y) (i + 1)
  one-read r more p q =
      let back : at + i - at ≡ i = omega arith in
      let on : at + i + 1 ≡ at + (i + 1) = omega arith in
      record {
        most = omega arith;
        starts_so = filled_at _ _ _ _ _ _ _ (filled-up _ _ _ _ _ _ w.starts_so (omega (arith, r.of_starts)) (rw back p)) refl on;
        ends_so = filled_at _ _ _ _ _ _ _ (filled-up _ _ _ _ _ _ w.ends_so (omega (arith, r.of_ends)) (rw back q)) refl on;
      }

  pub all_read : length from ≤ i → BlockRead starts ends from to at s₀ e₀ s e
  all_read done =
      let end : at + i ≡ at + length from = omega (arith, w.most) in
      record { starts_are = filled_at _ _ _ _ _ _ _ w.starts_so refl end; ends_are = filled_at _ _ _ _ _ _ _ w.ends_so refl end }

-- one answer more of those from `at` up to `past`
pub none_between : {answers : ℕ → Result Range Refusal} {at : ℕ} {m s e : List ℕ} → AnsweredBetween answers at at m s e m s e
none_between = record { numbers_are = none_filled _ _ _; starts_are = none_filled _ _ _; ends_are = none_filled _ _ _ }

module _ {answers : ℕ → Result Range Refusal} {from to m₀ s₀ e₀ m s e : List ℕ} {at past i : ℕ} (b : RangesBetween from to at past m₀ s₀ e₀) (f : AnsweredBetween answers at i m₀ s₀ e₀ m s e) (more : i < past) {m₁ s₁ e₁ : List ℕ} where
  pub one-answered : {answer : Result Range Refusal} {x y w : ℕ} → answer ≡ answers i → x ≡ number_in answer → y ≡ start_in answer → w ≡ end_in answer → m₁ ≡ set m i x → s₁ ≡ set s i y → e₁ ≡ set e i w → AnsweredBetween answers at (i + 1) m₀ s₀ e₀ m₁ s₁ e₁
  one-answered is p q r at-m at-s at-e =
      rw (at-m, at-s, at-e)
      (record {
        numbers_are = filled-up _ _ _ _ _ _ f.numbers_are (omega (arith, b.inside, b.room.of_numbers)) (p ∙ ap number_in is);
        starts_are = filled-up _ _ _ _ _ _ f.starts_are (omega (arith, b.inside, b.room.of_starts)) (q ∙ ap start_in is);
        ends_are = filled-up _ _ _ _ _ _ f.ends_are (omega (arith, b.inside, b.room.of_ends)) (r ∙ ap end_in is);
      })

  -- by two reads: the number is 0 already
  pub one-expanded : {y w : ℕ} → Ok (in_original y w) ≡ answers i → m₁ ≡ m → s₁ ≡ set s i y → e₁ ≡ set e i w → AnsweredBetween answers at (i + 1) m₀ s₀ e₀ m₁ s₁ e₁
  one-expanded is at-m at-s at-e =
      rw (at-m, at-s, at-e)
      (record {
        numbers_are = filled-kept _ _ _ _ _ f.numbers_are (b.zeros i f.numbers_are.ordered more ∙ ap number_in is);
        starts_are = filled-up _ _ _ _ _ _ f.starts_are (omega (arith, b.inside, b.room.of_starts)) (ap start_in is);
        ends_are = filled-up _ _ _ _ _ _ f.ends_are (omega (arith, b.inside, b.room.of_ends)) (ap end_in is);
      })

pub between_done : {answers : ℕ → Result Range Refusal} {at past i : ℕ} {m₀ s₀ e₀ m s e : List ℕ} → AnsweredBetween answers at i m₀ s₀ e₀ m s e → i ≡ past → AnsweredBetween answers at past m₀ s₀ e₀ m s e
between_done f end =
    record {
      numbers_are = filled_at _ _ _ _ _ _ _ f.numbers_are refl end;
      starts_are = filled_at _ _ _ _ _ _ _ f.starts_are refl end;
      ends_are = filled_at _ _ _ _ _ _ _ f.ends_are refl end;
    }

-- i of n answers are written
pub record Answering (answers : ℕ → Result Range Refusal) (n : ℕ) (z s₀ e₀ m s e : List ℕ) (i : ℕ) : Type 0 where
  pub zeros : (k : ℕ) → k < n → get_or z k 0 ≡ 0
  pub columns : Filling (λ k. number_in (answers k)) (λ k. start_in (answers k)) (λ k. end_in (answers k)) n z s₀ e₀ m s e i

pub none-answered : {answers : ℕ → Result Range Refusal} {n : ℕ} (n₀ : List ℕ) {z s e : List ℕ} → n ≤ length n₀ → z ≡ splice n₀ 0 (replicate n 0) → Answering answers n z s e z s e 0
none-answered {n = n} n₀ room is = record { zeros = zeros-are n n₀ room is; columns = none-filling }

module _ {answers : ℕ → Result Range Refusal} {from to z s₀ e₀ m s e : List ℕ} {i past : ℕ} (room : AnswerRoom from to z s₀ e₀) (f : Answering answers (length from) z s₀ e₀ m s e i) (some : i < length from) (up_to_lem : past ≡ min (length from) (i + 64)) where
  on : i ≤ past
  on = omega arith

  inside : past ≤ length from
  inside = omega arith

  -- the numbers from i on are still 0
  still : (k : ℕ) → i ≤ k → k < past → get_or m k 0 ≡ 0
  still k low high = f.columns.first.beyond k low ∙ f.zeros k (omega arith)

  pub between : RangesBetween from to i past m s e
  between =
      record {
        onward = on;
        inside = inside;
        room = record {
          same = room.same;
          of_numbers = omega (arith, room.of_numbers, f.columns.first.same);
          of_starts = omega (arith, room.of_starts, f.columns.second.same);
          of_ends = omega (arith, room.of_ends, f.columns.third.same);
        };
        zeros = still;
      }

  -- several answers more
  pub more-answered : {m₁ s₁ e₁ : List ℕ} → AnsweredBetween answers i past m s e m₁ s₁ e₁ → Answering answers (length from) z s₀ e₀ m₁ s₁ e₁ past
  more-answered w =
      record {
        zeros = f.zeros;
        columns = record {
          most = inside;
          first = filled-after _ _ _ _ _ _ _ f.columns.first w.numbers_are;
          second = filled-after _ _ _ _ _ _ _ f.columns.second w.starts_are;
          third = filled-after _ _ _ _ _ _ _ f.columns.third w.ends_are;
        };
      }

  -- a block by two reads each
  pub block-answered : (starts ends : List ℕ) → {s₁ e₁ : List ℕ}
      → ((k : ℕ) → i ≤ k → k < past → Ok (in_original (get_or starts (get_or from k 0) 0) (get_or ends (get_or to k 0 - 1) 0)) ≡ answers k)
      → BlockRead starts ends (part from i past) (part to i past) i s e s₁ e₁ → AnsweredBetween answers i past m s e m s₁ e₁
  block-answered starts ends {s₁} {e₁} is w =
      let long : i + length (part from i past) ≡ past = omega (arith, length_part from i past inside) in
      record {
        numbers_are = record { ordered = on; same = refl; within = λ k low high. still k low high ∙ ap number_in (is k low high); before = λ k h. refl; beyond = λ k h. refl };
        starts_are = filled-as _ _ _ _ _ _ (filled_at _ _ _ _ _ _ _ w.starts_are refl long)
            (λ k low high. ap (λ (x : ℕ). get_or starts x 0) (part_at from i past k low high) ∙ ap start_in (is k low high));
        ends_are = filled-as _ _ _ _ _ _ (filled_at _ _ _ _ _ _ _ w.ends_are refl long)
            (λ k low high. ap (λ (x : ℕ). get_or ends (x - 1) 0) (part_at to i past k low high) ∙ ap end_in (is k low high));
      }

-- a block that was tested
module _ {most : ℕ} {starts ends from to m s e : List ℕ} (side : OffsetReferential) {i past len : ℕ} (cols : OrderedColumns most starts ends) (b : RangesBetween from to i past m s e) (l : len ≡ expandable side (length ends)) (w : Expanding (part from i past) (part to i past) len) where
  pub readable : Readable starts ends (part from i past) (part to i past) i s e
  readable =
      let long : length (part from i past) ≡ past - i = length_part from i past b.inside in
      let long₂ : length (part to i past) ≡ past - i = length_part to i past (omega (arith, b.inside, b.room.same)) in
      record {
        paired = cols.paired;
        same = long ∙ sym long₂;
        expanding = expanding-most w (omega (arith, l, expandable-most side (length ends)));
        of_starts = omega (arith, long, b.onward, b.inside, b.room.of_starts);
        of_ends = omega (arith, long, b.onward, b.inside, b.room.of_ends);
      }

  pub reads : (k : ℕ) → i ≤ k → k < past → Ok (in_original (get_or starts (get_or from k 0) 0) (get_or ends (get_or to k 0 - 1) 0)) ≡ answer_at (converted starts ends) side from to k
  reads k low high =
      let here : k - i < length (part from i past) = omega (arith, length_part from i past b.inside) in
      answer-reads starts ends side from to k l (rw (part_at from i past k low high, part_at to i past k low high) at (w.each (k - i) here)) refl refl

pub all-answered : {answers : ℕ → Result Range Refusal} {from to n₀ z s₀ e₀ m s e : List ℕ} {i : ℕ} → AnswerRoom from to n₀ s₀ e₀ → z ≡ splice n₀ 0 (replicate (length from) 0) → Answering answers (length from) z s₀ e₀ m s e i → length from ≤ i → AnswersWritten answers (length from) n₀ s₀ e₀ m s e
all-answered {from = from} {n₀ = n₀} room is w done =
    let over = zeroed-room n₀ room is in
    let three = all-filling w.columns done over.of_numbers over.of_starts over.of_ends in
    record {
      numbers_are = three.0 ∙ over_zeros (length from) n₀ room.of_numbers is _ (length-column _ _);
      starts_are = three.1;
      ends_are = three.2;
    }
