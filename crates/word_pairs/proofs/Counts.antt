-- Laws of counting: a number for each pair, laid one after the other; and how many of them are 0.
use Prim.Native.Nat.{ℕ, ◌+◌, ◌*◌, ◌/◌, ◌≤◌, ◌<◌}
use mathlib.Core.Path.{◌≡◌, ◌∙◌, ap, refl, sym}
use mathlib.Core.Bool.{cond}
use mathlib.Core.List.{List, [], ◌∷◌}
use native.Mathlib.Omega.{arith}
use lib.Dec.{eqb}
use Rattle.std.proofs.lemmas.List.Sums.{count_by-le-length, sum_by-cons}
use borrow.Author.Tests.{eq-eqb, ne_eqb}
use native.Mathlib.Numerals.{add-one}
use lib.ListN.{length, drop, get_or, set, drop_of_length-le}
use lib.Seq.{drop-cons}
use Rattle.buffers.specs.Splice.{overlay}
use Rattle.buffers.proofs.Splice.{Laying, none-laid, piece-laid, all_laid, store-one}
use Rattle.find.specs.Matching.{found_places}
use Rattle.redact_note.specs.Redacting.{match_count}
use Rattle.redact_note.specs.Chain.{Pair}
use Rattle.word_pairs.specs.declared.Word.{Word}
use Rattle.word_pairs.specs.declared.Word.TheVariants.{Literal, Filler}
use Rattle.word_pairs.specs.Words.{pairs_of, pair_cut}
use Rattle.word_pairs.specs.Counts.{word_in, word_counts, zero_count, Countable}
use Rattle.word_pairs.proofs.Words.{At, even-at, next-at, pairs-at, pairs_end, length_pairs}

pub length-counts : (which : Word) (text : List ℕ) (ps : List Pair) → length (word_counts which text ps) ≡ length ps
unfolding word_counts
length-counts which text [] = refl
length-counts which text (p ∷ ps) = omega (arith, length-counts which text ps)

pub counts-cons : (which : Word) (text : List ℕ) (p : Pair) (ps : List Pair) → word_counts which text (p ∷ ps) ≡ match_count (found_places text (word_in which p)) ∷ word_counts which text ps
unfolding word_counts
counts-cons which text p ps = refl

pub counts-nil : (which : Word) (text : List ℕ) → word_counts which text [] ≡ []
unfolding word_counts
counts-nil which text = refl

-- by which word is asked for
module _ (text : List ℕ) (p : Pair) {which : Word} {r : ℕ} where
  pub literal-counted : which ≡ Literal → r ≡ match_count (found_places text p.literal) → r ≡ match_count (found_places text (word_in which p))
  literal-counted is counted = counted ∙ ap (λ (w : Word). match_count (found_places text (word_in w p))) (sym is)

  pub filler-counted : which ≡ Filler → r ≡ match_count (found_places text p.content) → r ≡ match_count (found_places text (word_in which p))
  filler-counted is counted = counted ∙ ap (λ (w : Word). match_count (found_places text (word_in w p))) (sym is)

-- the numbers of k pairs are laid
pub record Counted (which : Word) (text bytes sizes column₀ : List ℕ) (column : List ℕ) (at k : ℕ) : Type 0 where
  pub read : At bytes sizes k at
  pub laid : Laying (word_counts which text (pairs_of bytes sizes)) (word_counts which text (pairs_of (drop at bytes) (drop (2 * k) sizes))) column₀ k column

pub none-counted : (which : Word) {text bytes sizes column : List ℕ} → Countable text bytes sizes column → Counted which text bytes sizes column column 0 0
none-counted which {text} {bytes} {sizes} {column} h =
    record {
      read = even-at bytes sizes h.even;
      laid = none-laid (word_counts which text (pairs_of bytes sizes)) column (omega (arith, length-counts which text (pairs_of bytes sizes), length_pairs bytes sizes, h.room));
    }

module _ {which : Word} {text bytes sizes column₀ column : List ℕ} {at k : ℕ} (c : Counted which text bytes sizes column₀ column at k) where
  module _ (h : k < length sizes / 2) where
    abbrev middle : ℕ
    middle = at + get_or sizes (2 * k) 0

    abbrev end : ℕ
    end = middle + get_or sizes (2 * k + 1) 0

    rest-is :
        word_counts which text (pairs_of (drop at bytes) (drop (2 * k) sizes))
        ≡ match_count (found_places text (word_in which (pair_cut bytes at middle end))) ∷ word_counts which text (pairs_of (drop end bytes) (drop (2 * (k + 1)) sizes))
    rest-is =
        ap (word_counts which text) (pairs-at c.read h)
        ∙ counts-cons which text (pair_cut bytes at middle end) (pairs_of (drop end bytes) (drop (2 * (k + 1)) sizes))

    pub column-room : k < length column
    column-room = omega (arith, c.laid.room, ap length rest-is)

    pub one-counted : {x : ℕ} → x ≡ match_count (found_places text (word_in which (pair_cut bytes at middle end))) → Counted which text bytes sizes column₀ (set column k x) end (k + 1)
    one-counted {x} is =
        record {
          read = next-at c.read h;
          laid = piece-laid (word_counts which text (pairs_of bytes sizes)) (x ∷ []) (word_counts which text (pairs_of (drop end bytes) (drop (2 * (k + 1)) sizes))) column₀ k column
              (rw (rest-is ∙ ap (λ (y : ℕ). y ∷ word_counts which text (pairs_of (drop end bytes) (drop (2 * (k + 1)) sizes))) (sym is)) at c.laid)
              (k + 1) (set column k x) refl (store-one column k x column-room);
        }

  pub all-counted : length sizes / 2 ≤ k → column ≡ overlay (word_counts which text (pairs_of bytes sizes)) column₀
  all-counted h =
      all_laid (word_counts which text (pairs_of bytes sizes)) column₀ k column
      (rw (ap (word_counts which text) (pairs_end c.read h) ∙ counts-nil which text) at c.laid)

-- how many are 0
pub zeros-cons : (x : ℕ) (xs : List ℕ) → zero_count (x ∷ xs) ≡ cond (eqb x 0) 1 0 + zero_count xs
zeros-cons x xs = sum_by-cons (λ (y : ℕ). cond (eqb y 0) 1 0) x xs

zero-cons : (xs : List ℕ) (i : ℕ) → i < length xs → zero_count (drop i xs) ≡ zero_count (get_or xs i 0 ∷ drop (i + 1) xs)
zero-cons xs i h = let cut : drop i xs ≡ get_or xs i 0 ∷ drop (i + 1) xs = drop-cons xs i 0 h ∙ rw (add-one i) in ap zero_count cut

pub record Zeros (column : List ℕ) (count i : ℕ) : Type 0 where
  pub total : count + zero_count (drop i column) ≡ zero_count column
  pub few : count ≤ i

pub none-zero : (column : List ℕ) → Zeros column 0 0
none-zero column = record { total = omega arith; few = omega arith }

module _ {column : List ℕ} {count i : ℕ} (z : Zeros column count i) (h : i < length column) where
  pub zero_more : get_or column i 0 ≡ 0 → Zeros column (count + 1) (i + 1)
  zero_more is =
      let here : zero_count (drop i column) ≡ 1 + zero_count (drop (i + 1) column) = zero-cons column i h ∙ zeros-cons (get_or column i 0) (drop (i + 1) column) ∙ rw (eq-eqb _ _ is) in
      record { total = omega (arith, z.total, here); few = omega (arith, z.few) }

  pub other_more : (get_or column i 0 ≡ 0 → ⊥) → Zeros column count (i + 1)
  other_more is =
      let here : zero_count (drop i column) ≡ 0 + zero_count (drop (i + 1) column) = zero-cons column i h ∙ zeros-cons (get_or column i 0) (drop (i + 1) column) ∙ rw (ne_eqb _ _ is) in
      record { total = omega (arith, z.total, here); few = omega (arith, z.few) }

pub zeros-end : {column : List ℕ} {count i : ℕ} → Zeros column count i → length column ≤ i → count ≡ zero_count column
zeros-end {column} {count} {i} z h = omega (arith, z.total, ap zero_count (drop_of_length-le column h))

pub zeros-few : (xs : List ℕ) → zero_count xs ≤ length xs
zeros-few xs = count_by-le-length _ xs
