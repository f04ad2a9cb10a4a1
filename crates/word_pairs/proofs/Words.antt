-- Laws of words and pairs: how a list of them goes on from one to the next.
use Prim.Native.Nat.{ℕ, suc, ◌+◌, ◌*◌, ◌-◌, ◌/◌, ◌%◌, ◌≤◌, ◌<◌}
use mathlib.Core.Path.{◌≡◌, ◌∙◌, ap, refl}
use mathlib.Core.Bool.{true}
use mathlib.Core.List.{List, [], ◌∷◌}
use mathlib.Mathlib.Data.Bool.Basic.{and_elim_left, and_elim_right}
use native.Mathlib.Omega.{arith}
use native.Mathlib.Numerals.{add-one}
use lib.Dec.{eqb}
use lib.ListN.{length, take, drop, get_or, drop_of_length-le}
use lib.Seq.{drop-cons, drop-drop}
use borrow.Author.Tests.{eqb-true}
use Rattle.buffers.specs.Splice.{part}
use Rattle.word_pairs.specs.Words.{words_of, in_pairs, pairs_of, pair_cut, total, even_words, Cut}

words-cons : (bytes : List ℕ) (size : ℕ) (sizes : List ℕ) → words_of bytes (size ∷ sizes) ≡ take size bytes ∷ words_of (drop size bytes) sizes
unfolding words_of
words-cons bytes size sizes = refl

total-cons : (size : ℕ) (sizes : List ℕ) → total (size ∷ sizes) ≡ size + total sizes
unfolding total
total-cons size sizes = refl

cut-part : (bytes : List ℕ) (at size : ℕ) → take size (drop at bytes) ≡ part bytes at (at + size)
cut-part bytes at size = let same : size ≡ (at + size) - at = omega arith in ap (λ (k : ℕ). take k (drop at bytes)) same

-- from the word at i on
module _ (bytes sizes : List ℕ) (at i : ℕ) (h : i < length sizes) where
  pub words-at : words_of (drop at bytes) (drop i sizes) ≡ part bytes at (at + get_or sizes i 0) ∷ words_of (drop (at + get_or sizes i 0) bytes) (drop (i + 1) sizes)
  words-at =
      ap (words_of (drop at bytes)) (drop-cons sizes i 0 h) ∙ words-cons (drop at bytes) (get_or sizes i 0) (drop (suc i) sizes)
      ∙ rw (cut-part bytes at (get_or sizes i 0), drop-drop (get_or sizes i 0) at bytes, add-one i)

  pub total-at : total (drop i sizes) ≡ get_or sizes i 0 + total (drop (i + 1) sizes)
  total-at = ap total (drop-cons sizes i 0 h) ∙ total-cons (get_or sizes i 0) (drop (suc i) sizes) ∙ rw (add-one i)

pub length-words : (bytes sizes : List ℕ) → length (words_of bytes sizes) ≡ length sizes
unfolding words_of
length-words bytes [] = refl
length-words bytes (size ∷ sizes) = omega (arith, length-words (drop size bytes) sizes)

length-in-pairs : (words : List (List ℕ)) → length (in_pairs words) ≡ length words / 2
unfolding in_pairs
length-in-pairs [] = refl
length-in-pairs (word ∷ []) = refl
length-in-pairs (literal ∷ content ∷ words) = omega (arith, length-in-pairs words)

pub length_pairs : (bytes sizes : List ℕ) → length (pairs_of bytes sizes) ≡ length sizes / 2
length_pairs bytes sizes = length-in-pairs (words_of bytes sizes) ∙ ap (λ (n : ℕ). n / 2) (length-words bytes sizes)

pairs-cons : (literal content : List ℕ) (words : List (List ℕ)) → in_pairs (literal ∷ content ∷ words) ≡ record { literal = literal; content = content } ∷ in_pairs words
unfolding in_pairs
pairs-cons literal content words = refl

-- k pairs are read, up to a position of the bytes
pub record At (bytes sizes : List ℕ) (k at : ℕ) : Type 0 where
  pub whole : at + total (drop (2 * k) sizes) ≡ length bytes
  pub even : length sizes % 2 ≡ 0
  pub few : 2 * k ≤ length sizes

pub even-at : (bytes sizes : List ℕ) → even_words bytes sizes ≡ true → At bytes sizes 0 0
unfolding even_words
even-at bytes sizes h =
    record {
      whole = omega (arith, eqb-true (total sizes) (length bytes) (and_elim_right (eqb (length sizes % 2) 0) _ h));
      even = eqb-true (length sizes % 2) 0 (and_elim_left (eqb (length sizes % 2) 0) _ h);
      few = omega arith;
    }

-- one more
module _ {bytes sizes : List ℕ} {k at : ℕ} (a : At bytes sizes k at) (h : k < length sizes / 2) where
  pub both_read : (2 * k < length sizes) × (2 * k + 1 < length sizes)
  both_read = (omega (arith, a.even), omega (arith, a.even))

  total-both : total (drop (2 * k) sizes) ≡ get_or sizes (2 * k) 0 + (get_or sizes (2 * k + 1) 0 + total (drop (2 * (k + 1)) sizes))
  total-both =
      let next : (2 * k + 1) + 1 ≡ 2 * (k + 1) = omega arith in
      total-at bytes sizes at (2 * k) both_read.0 ∙ ap (λ (n : ℕ). get_or sizes (2 * k) 0 + n) (total-at bytes sizes at (2 * k + 1) both_read.1 ∙ rw next)

  pub next-cut : Cut bytes at (at + get_or sizes (2 * k) 0) (at + get_or sizes (2 * k) 0 + get_or sizes (2 * k + 1) 0)
  next-cut = record { first = omega arith; second = omega arith; inside = omega (arith, a.whole, total-both) }

  pub next-at : At bytes sizes (k + 1) (at + get_or sizes (2 * k) 0 + get_or sizes (2 * k + 1) 0)
  next-at = record { whole = omega (arith, a.whole, total-both); even = a.even; few = omega (arith, a.even) }

  pub pairs-at :
      pairs_of (drop at bytes) (drop (2 * k) sizes)
      ≡ pair_cut bytes at (at + get_or sizes (2 * k) 0) (at + get_or sizes (2 * k) 0 + get_or sizes (2 * k + 1) 0)
      ∷ pairs_of (drop (at + get_or sizes (2 * k) 0 + get_or sizes (2 * k + 1) 0) bytes) (drop (2 * (k + 1)) sizes)
  pairs-at =
      let next : (2 * k + 1) + 1 ≡ 2 * (k + 1) = omega arith in
      let middle : ℕ = at + get_or sizes (2 * k) 0 in
      ap in_pairs (words-at bytes sizes at (2 * k) both_read.0 ∙ ap (λ (ws : List (List ℕ)). part bytes at middle ∷ ws) (words-at bytes sizes middle (2 * k + 1) both_read.1))
      ∙ pairs-cons (part bytes at middle) (part bytes middle (middle + get_or sizes (2 * k + 1) 0)) (words_of (drop (middle + get_or sizes (2 * k + 1) 0) bytes) (drop ((2 * k + 1) + 1) sizes))
      ∙ rw next

-- all are read
pub pairs_end : {bytes sizes : List ℕ} {k at : ℕ} → At bytes sizes k at → length sizes / 2 ≤ k → pairs_of (drop at bytes) (drop (2 * k) sizes) ≡ []
unfolding words_of in_pairs
pairs_end {bytes} {sizes} {k} {at} a h =
    let all : length sizes ≤ 2 * k = omega (arith, a.even) in
    ap (λ (ss : List ℕ). in_pairs (words_of (drop at bytes) ss)) (drop_of_length-le sizes all)
