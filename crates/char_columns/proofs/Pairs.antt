-- Laws of `eachPair`: pairs of bytes that become characters, one after the other.
use Prim.Native.Nat.{ℕ, suc, ◌+◌, ◌≤◌, ◌<◌}
use mathlib.Core.Path.{◌≡◌, ◌∙◌, ap, refl, sym}
use mathlib.Core.Bool.{true}
use mathlib.Core.List.{List, [], ◌∷◌}
use native.Mathlib.Numerals.{add-one}
use native.Mathlib.Omega.{arith}
use lib.ListN.{length, get_or, set, take, drop, drop_of_length-le, take-append-drop}
use lib.Seq.{drop-cons, get_or-take, length-take-le}
use Rattle.buffers.specs.Splice.{overlay}
use Rattle.buffers.proofs.Splice.{Laying, none-laid, piece-laid, unwritten, all_laid, store-one}
use Rattle.validity.specs.Texts.{ascii}
use Rattle.char_columns.specs.declared.OffsetType.TheVariants.{Char}
use Rattle.char_columns.specs.declared.Cursor.{Cursor}
use Rattle.char_columns.specs.declared.Offsets.{Offsets}
use Rattle.char_columns.specs.Numbers.{start_number, end_number}
use Rattle.char_columns.specs.Steps.{BothKnown, Stepped, each_pair, PairsReady, PlainEnd, CharsCounted, EndsCounted}
use Rattle.char_columns.proofs.Numbered.{zero-cursor, both_zero, plain-start}

length_pairs : (number : ℕ → ℕ → ℕ) (from to : List ℕ) → length from ≡ length to → length (each_pair number from to) ≡ length from
unfolding each_pair
length_pairs number [] to e = refl
length_pairs number (a ∷ from) [] e = absurd (omega arith)
length_pairs number (a ∷ from) (b ∷ to) e = ap suc (length_pairs number from to (omega arith))

-- where each byte is a character, starts stay
plain-starts : (s : List ℕ) → ascii s ≡ true → (from to : List ℕ) → length from ≡ length to → each_pair (start_number s Char) from to ≡ from
unfolding each_pair
plain-starts s plain [] to e = refl
plain-starts s plain (a ∷ from) [] e = absurd (omega arith)
plain-starts s plain (a ∷ from) (b ∷ to) e = rw (← plain-start s a b plain, plain-starts s plain from to (omega arith))

-- what is written of the first `count` pairs, in one column, in both, and in that of the ends
abbrev Column : ℕ → List ℕ → List ℕ → (ℕ → ℕ → ℕ) → List ℕ → ℕ → List ℕ → Type 0
Column count from₀ to₀ number d₀ k d =
    Laying (each_pair number (take count from₀) (take count to₀)) (each_pair number (drop k (take count from₀)) (drop k (take count to₀))) d₀ k d

pub record Counting (most : ℕ) (s : List ℕ) (count : ℕ) (from₀ to₀ : List ℕ) (first last : Cursor) (k : ℕ) (from to : List ℕ) : Type 0 where
  pub few : k ≤ count
  pub known : BothKnown most s first last
  pub starts_on : Column count from₀ to₀ (start_number s Char) from₀ k from
  pub ends_on : Column count from₀ to₀ (end_number s Char) to₀ k to

pub record Ending (s : List ℕ) (count : ℕ) (from₀ to₀ : List ℕ) (k : ℕ) (to : List ℕ) : Type 0 where
  pub few : k ≤ count
  pub ends_on : Column count from₀ to₀ (end_number s Char) to₀ k to

module _ {most : ℕ} {s : List ℕ} {count : ℕ} {from₀ to₀ : List ℕ} (r : PairsReady most s count from₀ to₀) where
  abbrev firsts : List ℕ
  firsts = take count from₀

  abbrev lasts : List ℕ
  lasts = take count to₀

  pairs-long : (number : ℕ → ℕ → ℕ) → length (each_pair number firsts lasts) ≡ count
  pairs-long number =
      length_pairs number firsts lasts (length-take-le count from₀ r.starts_room ∙ sym (length-take-le count to₀ r.ends_room))
      ∙ length-take-le count from₀ r.starts_room

  -- one column
  none-column : (number : ℕ → ℕ → ℕ) (d : List ℕ) → count ≤ length d → Column count from₀ to₀ number d 0 d
  none-column number d room = none-laid _ d (rw (pairs-long number) room)

  all-column : (number : ℕ → ℕ → ℕ) {d₀ d : List ℕ} {k : ℕ} → count ≤ k → Column count from₀ to₀ number d₀ k d → d ≡ overlay (each_pair number firsts lasts) d₀
  unfolding each_pair
  all-column number {d₀} {d} {k} done l =
      let none : drop k firsts ≡ [] = drop_of_length-le firsts {i = k} (omega (arith, length-take-le count from₀ r.starts_room)) in
      all_laid _ d₀ k d (rw none at l)

  module _ {k : ℕ} (more : k < count) where
    front-here : (xs : List ℕ) → count ≤ length xs → drop k (take count xs) ≡ get_or xs k 0 ∷ drop (k + 1) (take count xs)
    front-here xs room = drop-cons (take count xs) k 0 (omega (arith, length-take-le count xs room)) ∙ rw (get_or-take count xs k 0 more, add-one k)

    one-column : (number : ℕ → ℕ → ℕ) {d₀ d : List ℕ} {x : ℕ} → Column count from₀ to₀ number d₀ k d → k < length d → x ≡ number (get_or from₀ k 0) (get_or to₀ k 0) → Column count from₀ to₀ number d₀ (k + 1) (set d k x)
    unfolding each_pair
    one-column number {d₀} {d} {x} l room is =
        piece-laid _ (x ∷ []) (each_pair number (drop (k + 1) firsts) (drop (k + 1) lasts)) d₀ k d
        (rw (front-here from₀ r.starts_room, front-here to₀ r.ends_room, ← is) at l) (k + 1) (set d k x) refl (store-one d k x room)

  -- COUNTED, pair by pair
  pub none-counted : Counting most s count from₀ to₀ zero-cursor zero-cursor 0 from₀ to₀
  none-counted =
      record {
        few = omega arith;
        known = both_zero r.short;
        starts_on = none-column (start_number s Char) from₀ r.starts_room;
        ends_on = none-column (end_number s Char) to₀ r.ends_room;
      }

  module _ {first last : Cursor} {k : ℕ} {from to : List ℕ} (c : Counting most s count from₀ to₀ first last k from to) where
    pub in_both : k < count → (k < length from) × (k < length to)
    in_both more = (omega (arith, c.starts_on.same, r.starts_room), omega (arith, c.ends_on.same, r.ends_room))

    pub one-counted : k < count → {x y : ℕ} {o : Offsets} → x ≡ get_or from k 0 → y ≡ get_or to k 0 → Stepped most s x y o
        → Counting most s count from₀ to₀ o.first o.last (k + 1) (set from k o.start) (set to k o.end)
    one-counted more {x} {y} {o} at_x at_y st =
        let a : x ≡ get_or from₀ k 0 = at_x ∙ unwritten c.starts_on in
        let e : y ≡ get_or to₀ k 0 = at_y ∙ unwritten c.ends_on in
        record {
          few = omega arith;
          known = st.known;
          starts_on = one-column more (start_number s Char) c.starts_on (in_both more).0 (rw (a, e) at st.start_is);
          ends_on = one-column more (end_number s Char) c.ends_on (in_both more).1 (rw (a, e) at st.end_is);
        }

    pub all-counted : count ≤ k → CharsCounted s count from₀ to₀ from to
    all-counted done =
        record {
          starts_are = all-column (start_number s Char) done c.starts_on;
          ends_are = all-column (end_number s Char) done c.ends_on;
        }

  -- only ends, where each byte is a character
  pub none-ended : Ending s count from₀ to₀ 0 to₀
  none-ended = record { few = omega arith; ends_on = none-column (end_number s Char) to₀ r.ends_room }

  module _ {k : ℕ} {to : List ℕ} (c : Ending s count from₀ to₀ k to) where
    pub end-room : k < count → k < length to
    end-room more = omega (arith, c.ends_on.same, r.ends_room)

    pub one_ended : k < count → ascii s ≡ true → {size a e x : ℕ} → size ≡ length s → a ≡ get_or from₀ k 0 → e ≡ get_or to k 0 → PlainEnd size a e x
        → Ending s count from₀ to₀ (k + 1) (set to k x)
    one_ended more plain {a = a} {e = e} long at_a at-e p =
        let here : e ≡ get_or to₀ k 0 = at-e ∙ unwritten c.ends_on in
        record {
          few = omega arith;
          ends_on = one-column more (end_number s Char) c.ends_on (end-room more) (rw (at_a, here) at (p.right s (sym long) plain));
        }

    pub all-ended : count ≤ k → EndsCounted s count from₀ to₀ to
    all-ended done = record { ends_are = all-column (end_number s Char) done c.ends_on }

  pub plain-counted : ascii s ≡ true → {to : List ℕ} → EndsCounted s count from₀ to₀ to → CharsCounted s count from₀ to₀ from₀ to
  unfolding overlay
  plain-counted plain w =
      let same : length firsts ≡ length lasts = length-take-le count from₀ r.starts_room ∙ sym (length-take-le count to₀ r.ends_room) in
      record {
        starts_are = rw (plain-starts s plain firsts lasts same, length-take-le count from₀ r.starts_room) (sym (take-append-drop count from₀));
        ends_are = w.ends_are;
      }
