-- Laws of `dottedAfter` and `grownAfter`: a column, byte by byte, has for each character its value, as often as what is
-- in the character's place has bytes.
use Prim.Native.Nat.{ℕ, zero, suc, ◌+◌, ◌-◌, ◌≤◌, ◌<◌}
use mathlib.Core.Path.{◌≡◌, ◌∙◌, ap, refl, sym}
use mathlib.Core.Bool.{true, false, cond, ◌&&◌}
use mathlib.Core.List.{List, [], ◌∷◌, ◌++◌, append_assoc}
use native.Mathlib.Numerals.{add-one}
use native.Mathlib.Omega.{arith}
use mir.Val.{bool_byte}
use lib.Dec.{eqb}
use lib.ListN.{length, get_or, take, drop, replicate, length-append, length-replicate, replicate-append-replicate, drop_of_length-le}
use lib.Seq.{drop-cons}
use borrow.Author.Tests.{eq-eqb, ne_eqb, eqb-true, eqb-false}
use Rattle.buffers.specs.Splice.{part, splice, overlay}
use Rattle.buffers.proofs.Cases.{le-or-lt, true-or-false, clash}
use Rattle.buffers.proofs.Booleans.{and-false-l, and_false_r}
use Rattle.buffers.proofs.Splice.{length_part, splice-overlay, Laying, none-laid, piece-laid, all_laid}
use Rattle.utf8.specs.Table.{within}
use Rattle.utf8.specs.Formed.{announced, continues, well_formed, boundary}
use Rattle.utf8.proofs.Formed.{announced-one, announced-none, continues-low, continues-high}
use Rattle.utf8.proofs.Chars.{chars-leads}
use Rattle.utf8.proofs.Boundaries.{CharAt, char-at, boundary-most, boundary-begins}
use Rattle.code_point_blocks.specs.Codes.{text_of}
use Rattle.code_point_blocks.proofs.Codes.{text-append}
use Rattle.map_columns.specs.Spreading.{of_chars}
use Rattle.map_columns.specs.Laying.{Steady}
use Rattle.map_columns.proofs.Chars.{of-chars-at, length-chars}
use Rattle.edits.specs.Characters.{code_at, codes_of}
use Rattle.edits.proofs.Characters.{codes-none, codes-cons}
use Rattle.edits.proofs.Sifted.{code-size, codes-chars}
use Rattle.lowercase.specs.Images.{dotted_i, images}
use Rattle.lowercase.specs.Lowering.{all_images, carried_by_images}
use Rattle.lowercase.specs.Laying.{dotted_at, dotted_sum, dotted_after, dotted_pairs, grown_after, grown, pair_code, ColumnRoom}
use Rattle.lowercase.proofs.Images.{images-length}
use Rattle.lowercase.proofs.Bytes.{code_one, code-two, code-past, two_bytes, by-chars}

-- two bytes that are not those of U+0130
trail-continues : continues 0xB0 ≡ true
unfolding continues within
trail-continues = refl

other-second : (a b : ℕ) → continues b ≡ false → dotted_at a b ≡ 0
unfolding dotted_at
other-second a b new =
    let far : b ≡ 0xB0 → ⊥ = λ is. clash (continues 0xB0) trail-continues (sym (ap continues is) ∙ new) in
    rw (and_false_r (eqb a 0xC4) _ (ne_eqb b 0xB0 far))

pub other-first : (a b : ℕ) → (a ≡ 0xC4 → ⊥) → dotted_at a b ≡ 0
unfolding dotted_at
other-first a b differ = rw (and-false-l _ (eqb b 0xB0) (ne_eqb a 0xC4 differ))

after-trail : (a b : ℕ) → continues a ≡ true → dotted_at a b ≡ 0
after-trail a b goes = other-first a b (λ is. absurd (omega (arith, continues-high a goes)))

pub dotted-is : (a b : ℕ) → bool_byte (eqb a 0xC4 && eqb b 0xB0) ≡ dotted_at a b
unfolding dotted_at
dotted-is a b = true-or-false (eqb a 0xC4 && eqb b 0xB0) (λ t. rw t) (λ f. rw f)

pub dotted-most : (a b : ℕ) → dotted_at a b ≤ 1
unfolding dotted_at
dotted-most a b = true-or-false (eqb a 0xC4 && eqb b 0xB0) (λ t. rw t (omega arith)) (λ f. rw f (omega arith))

-- the two bytes of a character, told by its code point
dotted-code : (a b : ℕ) → 0xC2 ≤ a → (0x80 ≤ b) × (b < 0xC0) → dotted_at a b ≡ cond (eqb (pair_code a b) dotted_i) 1 0
unfolding dotted_at
dotted-code a b l r =
    true-or-false (eqb a 0xC4)
    (λ first.
    let x : a ≡ 0xC4 = eqb-true a 0xC4 first in
    true-or-false (eqb b 0xB0)
    (λ last.
    let y : b ≡ 0xB0 = eqb-true b 0xB0 last in
    let is : eqb (pair_code a b) dotted_i ≡ true = eq-eqb (pair_code a b) dotted_i (omega (arith, x, y)) in
    rw (first, last, is))
    (λ last.
    let no : eqb (pair_code a b) dotted_i ≡ false = ne_eqb (pair_code a b) dotted_i (λ is. absurd (eqb-false b 0xB0 last (omega (arith, r.0, r.1, x, is)))) in
    rw (first, last, no)))
    (λ first.
    let no : eqb (pair_code a b) dotted_i ≡ false = ne_eqb (pair_code a b) dotted_i (λ is. absurd (eqb-false a 0xC4 first (omega (arith, r.0, r.1, is)))) in
    rw (first, no))

pub dotted-few : (before : ℕ) (s : List ℕ) → dotted_after before s ≤ length s
unfolding dotted_after
dotted-few before [] = omega arith
dotted-few before (b ∷ s) = omega (arith, dotted-most before b, dotted-few b s)

-- THE COLUMN, byte by byte
pub length-grown : (before : ℕ) (s xs : List ℕ) → length xs ≡ length s → length (grown_after before s xs) ≡ length s + dotted_after before s
unfolding grown_after dotted_after
length-grown before [] xs same = refl
length-grown before (b ∷ s) [] same = absurd (omega arith)
length-grown before (b ∷ s) (x ∷ xs) same =
    omega (arith, length-append (replicate (1 + dotted_at before b) x) (grown_after b s xs), length-replicate (1 + dotted_at before b) x, length-grown b s xs (omega arith))

-- without U+0130 it is as it was
pub ungrown : (before : ℕ) (s xs : List ℕ) → length xs ≡ length s → dotted_after before s ≡ 0 → grown_after before s xs ≡ xs
unfolding grown_after dotted_after
ungrown before [] [] same none = refl
ungrown before [] (x ∷ xs) same none = absurd (omega arith)
ungrown before (b ∷ s) [] same none = absurd (omega arith)
ungrown before (b ∷ s) (x ∷ xs) same none =
    let zero : dotted_at before b ≡ 0 = omega arith in
    rw zero (ap (◌∷◌ x) (ungrown b s xs (omega arith) (omega arith)))

grown-end : (before : ℕ) (xs : List ℕ) → grown_after before [] xs ≡ []
unfolding grown_after
grown-end before xs = refl

module _ (s xs : List ℕ) (same : length xs ≡ length s) where
  abbrev left : ℕ → ℕ → List ℕ
  left before p = grown_after before (drop p s) (drop p xs)

  pub grown-at : (before p : ℕ) → p < length s → left before p ≡ replicate (1 + dotted_at before (get_or s p 0)) (get_or xs p 0) ++ left (get_or s p 0) (p + 1)
  unfolding grown_after
  grown-at before p h = rw (drop-cons s p 0 h, drop-cons xs p 0 (omega arith), add-one p)

  -- what is before a character does not matter
  any-before : (before p : ℕ) → boundary s p ≡ true → left before p ≡ left 0 p
  any-before before p here =
      le-or-lt (length s) p
      (λ done. rw (drop_of_length-le s done) (grown-end before (drop p xs) ∙ sym (grown-end 0 (drop p xs))))
      (λ more.
      let new = boundary-begins s p here in
      grown-at before p more ∙ rw (other-second before (get_or s p 0) new) (sym (grown-at 0 p more ∙ rw (other-second 0 (get_or s p 0) new))))

  -- the last bytes of a character, which all have one value
  grown-rest : (k p v before : ℕ) → continues before ≡ true → boundary s (p + k) ≡ true → ((i : ℕ) → p ≤ i → i < p + k → (continues (get_or s i 0) ≡ true) × (get_or xs i 0 ≡ v)) → left before p ≡ replicate k v ++ left 0 (p + k)
  grown-rest zero p v before goes ends each = let z : p + 0 ≡ p = omega arith in rw z (any-before before p (rw z at ends))
  grown-rest (suc k) p v before goes ends each =
      let z : p + 1 + k ≡ p + suc k = omega arith in
      let here = each p (omega arith) (omega arith) in
      grown-at before p (omega (arith, boundary-most s (p + suc k) ends))
      ∙ rw (after-trail before (get_or s p 0) goes, here.1)
      (ap (◌∷◌ v) (rw z at (grown-rest k (p + 1) v (get_or s p 0) here.0 (rw (← z) at ends) (λ i a b. each i (omega arith) (omega arith)))))

  module _ (steady : Steady s xs) (formed : well_formed s ≡ true) where
    alike : (p j : ℕ) → p + j < length s → ((i : ℕ) → p < i → i ≤ p + j → continues (get_or s i 0) ≡ true) → get_or xs (p + j) 0 ≡ get_or xs p 0
    alike p zero h goes = let z : p + 0 ≡ p = omega arith in rw z
    alike p (suc j) h goes =
        let z : p + suc j ≡ suc (p + j) = omega arith in
        rw z (sym (steady (p + j) (omega arith) (goes (suc (p + j)) (omega arith) (omega arith))) ∙ alike p j (omega arith) (λ i a b. goes i a (omega arith)))

    module _ (p : ℕ) (here : boundary s p ≡ true) (more : p < length s) where
      abbrev b : ℕ
      b = get_or s p 0

      abbrev w : ℕ
      w = announced (get_or s p 0)

      char : CharAt s p w
      char = char-at s p formed here more

      abbrev extra : ℕ
      extra = cond (eqb (code_at s p) dotted_i) 1 0

      pub value : (i : ℕ) → p ≤ i → i < p + w → get_or xs i 0 ≡ get_or xs p 0
      value i a u =
          let z : p + (i - p) ≡ i = omega arith in
          rw z at (alike p (i - p) (omega (arith, char.inside)) (λ k l m. char.rest k l (omega arith)))

      -- the first byte, once
      first : left 0 p ≡ get_or xs p 0 ∷ left b (p + 1)
      first = grown-at 0 p more ∙ rw (other-second 0 b (boundary-begins s p here))

      extra-one : b < 0x80 → extra ≡ 0
      extra-one h =
          let no : eqb (code_at s p) dotted_i ≡ false = ne_eqb (code_at s p) dotted_i (λ is. absurd (omega (arith, code_one s p formed here more h, is))) in
          rw no

      -- the second, and once more for U+0130
      extra-more : 0xC2 ≤ b → 2 ≤ w → dotted_at b (get_or s (p + 1) 0) ≡ extra
      extra-more l wide =
          let goes = char.rest (p + 1) (omega arith) (omega arith) in
          le-or-lt b 0xDF
          (λ two.
          dotted-code b (get_or s (p + 1) 0) l (continues-low _ goes, continues-high _ goes) ∙ rw (code-two s p formed here more l (omega arith)))
          (λ three.
          let no : eqb (code_at s p) dotted_i ≡ false = ne_eqb (code_at s p) dotted_i (λ is. absurd (omega (arith, code-past s p formed here more (omega arith), is))) in
          other-first b (get_or s (p + 1) 0) (λ is. absurd (omega arith)) ∙ rw no)

      grown-char : left 0 p ≡ replicate (w + extra) (get_or xs p 0) ++ left 0 (p + w)
      grown-char =
          let x : ℕ = get_or xs p 0 in
          le-or-lt 0x80 b
          (λ high.
          let lead : 0xC2 ≤ b = le-or-lt 0xC2 b (λ l. l) (λ none. absurd (omega (arith, char.positive, announced-none b high none))) in
          let wide : 2 ≤ w = two_bytes b char.positive lead in
          let goes = char.rest (p + 1) (omega arith) (omega arith) in
          let y : p + 1 + 1 ≡ p + 2 = omega arith in
          let z : p + 2 + (w - 2) ≡ p + w = omega arith in
          let rest : left (get_or s (p + 1) 0) (p + 2) ≡ replicate (w - 2) x ++ left 0 (p + w) =
          rw z at (grown-rest (w - 2) (p + 2) x (get_or s (p + 1) 0) goes (rw (← z) at char.ends) (λ i a u. (char.rest i (omega arith) (omega arith), value i (omega arith) (omega arith)))) in
          let second : left b (p + 1) ≡ replicate (1 + extra) x ++ (replicate (w - 2) x ++ left 0 (p + w)) =
          grown-at b (p + 1) (omega (arith, char.inside)) ∙ rw (extra-more lead wide, value (p + 1) (omega arith) (omega arith), y, rest) in
          let total : 1 + extra + (w - 2) ≡ w + extra - 1 = omega arith in
          let all : suc (w + extra - 1) ≡ w + extra = omega arith in
          first ∙ ap (◌∷◌ x) (second ∙ sym (append_assoc (replicate (1 + extra) x) (replicate (w - 2) x) (left 0 (p + w))) ∙ rw (replicate-append-replicate (1 + extra) (w - 2) x, total))
          ∙ ap (λ (k : ℕ). replicate k x ++ left 0 (p + w)) all)
          (λ low.
          let one = announced-one b low in
          let z : p + 1 ≡ p + w = omega (arith, one) in
          let k : w + extra ≡ 1 = omega (arith, one, extra-one low) in
          first ∙ rw (k, z) (ap (◌∷◌ x) (any-before b (p + w) char.ends)))

    carried-cons : (c x : ℕ) (cs ys : List ℕ) → carried_by_images (c ∷ cs) (x ∷ ys) ≡ replicate (length (text_of (images c))) x ++ carried_by_images cs ys
    unfolding carried_by_images
    carried-cons c x cs ys = refl

    no-carried : (ys : List ℕ) → carried_by_images [] ys ≡ []
    unfolding carried_by_images
    no-carried ys = refl

    pub grown-carried : grown s xs ≡ carried_by_images (codes_of s) (of_chars s xs)
    grown-carried =
        by-chars s formed (λ p. left 0 p ≡ carried_by_images (codes_of (drop p s)) (of_chars (drop p s) (drop p xs)))
        (λ p past. rw (drop_of_length-le s past, codes-none) (grown-end 0 (drop p xs) ∙ sym (no-carried (of_chars [] (drop p xs)))))
        (λ p here more rest.
        let q : ℕ = p + announced (get_or s p 0) in
        let wide : length (text_of (images (code_at s p))) ≡ announced (get_or s p 0) + cond (eqb (code_at s p) dotted_i) 1 0 = images-length (code_at s p) ∙ rw (code-size s p formed here more) in
        grown-char p here more
        ∙ rw (codes-cons s p formed here more, of-chars-at s xs same p formed here more)
        (ap (◌++◌ (replicate (announced (get_or s p 0) + cond (eqb (code_at s p) dotted_i) 1 0) (get_or xs p 0))) rest
        ∙ sym (carried-cons (code_at s p) (get_or xs p 0) (codes_of (drop q s)) (of_chars (drop q s) (drop q xs)) ∙ rw wide)))

-- how long it is
length-carried : (cs xs : List ℕ) → length cs ≤ length xs → length (carried_by_images cs xs) ≡ length (text_of (all_images cs))
unfolding carried_by_images all_images text_of
length-carried [] xs h = refl
length-carried (c ∷ cs) [] h = absurd (omega arith)
length-carried (c ∷ cs) (x ∷ xs) h =
    omega (arith, length-append (replicate (length (text_of (images c))) x) (carried_by_images cs xs), length-replicate (length (text_of (images c))) x, length-carried cs xs (omega arith), ap length (text-append (images c) (all_images cs)), length-append (text_of (images c)) (text_of (all_images cs)))

pub grown-size : (s xs : List ℕ) → length xs ≡ length s → Steady s xs → well_formed s ≡ true → length s + dotted_pairs s ≡ length (text_of (all_images (codes_of s)))
grown-size s xs same steady formed =
    sym (length-grown 0 s xs same) ∙ ap length (grown-carried s xs same steady formed)
    ∙ length-carried (codes_of s) (of_chars s xs) (omega (arith, length-chars s xs same, codes-chars s, chars-leads s formed))

-- THE COUNT, byte by byte of two lists
sum-at : (xs ys : List ℕ) (i : ℕ) → length xs ≡ length ys → i < length xs → dotted_sum (drop i xs) (drop i ys) ≡ dotted_at (get_or xs i 0) (get_or ys i 0) + dotted_sum (drop (i + 1) xs) (drop (i + 1) ys)
unfolding dotted_sum
sum-at xs ys i same h = rw (drop-cons xs i 0 h, drop-cons ys i 0 (omega arith), add-one i)

sum-cons : (x y : ℕ) (xs ys : List ℕ) → dotted_sum (x ∷ xs) (y ∷ ys) ≡ dotted_at x y + dotted_sum xs ys
unfolding dotted_sum
sum-cons x y xs ys = refl

no-sum : (ys : List ℕ) → dotted_sum [] ys ≡ 0
unfolding dotted_sum
no-sum ys = refl

pub record Summed (xs ys : List ℕ) (n i : ℕ) : Type 0 where
  pub most : i ≤ length xs
  pub few : n ≤ i
  pub total : n + dotted_sum (drop i xs) (drop i ys) ≡ dotted_sum xs ys

pub none-summed : {xs ys : List ℕ} → Summed xs ys 0 0
none-summed = record { most = omega arith; few = omega arith; total = omega arith }

pub one-summed : {xs ys : List ℕ} {n i d : ℕ} → Summed xs ys n i → length xs ≡ length ys → i < length xs → d ≡ dotted_at (get_or xs i 0) (get_or ys i 0) → Summed xs ys (n + d) (i + 1)
one-summed {xs} {ys} {n} {i} k same h is =
    record {
      most = omega arith;
      few = omega (arith, k.few, dotted-most (get_or xs i 0) (get_or ys i 0));
      total = omega (arith, k.total, sum-at xs ys i same h);
    }

pub all-summed : {xs ys : List ℕ} {n i : ℕ} → Summed xs ys n i → length xs ≤ i → n ≡ dotted_sum xs ys
all-summed {xs} {ys} {n} {i} k past =
    let none : dotted_sum (drop i xs) (drop i ys) ≡ 0 = rw (drop_of_length-le xs past) (no-sum (drop i ys)) in
    omega (arith, k.total, none)

-- and of a text, from a byte on that begins the next pair
abbrev from : List ℕ → ℕ → ℕ
from s i = dotted_after (get_or s i 0) (drop (i + 1) s)

from_step : (s : List ℕ) (i : ℕ) → i + 1 < length s → from s i ≡ dotted_at (get_or s i 0) (get_or s (i + 1) 0) + from s (i + 1)
unfolding dotted_after
from_step s i h = rw (drop-cons s (i + 1) 0 h, add-one (i + 1))

from_last : (s : List ℕ) (i : ℕ) → length s ≤ i + 1 → from s i ≡ 0
unfolding dotted_after
from_last s i past = rw (drop_of_length-le s past)

from_first : (s : List ℕ) → 0 < length s → dotted_pairs s ≡ from s 0
unfolding dotted_after
from_first [] h = absurd (omega arith)
from_first (b ∷ s) h = omega (arith, other-first 0 b (λ is. absurd (omega arith)))

-- so many pairs from i on, in two parts of the text
front : (s : List ℕ) (k i : ℕ) → i < length s → take (suc k) (drop i s) ≡ get_or s i 0 ∷ take k (drop (i + 1) s)
front s k i h = rw (drop-cons s i 0 h, add-one i)

from-pairs : (s : List ℕ) (k i : ℕ) → i + k < length s → from s i ≡ dotted_sum (take k (drop i s)) (take k (drop (i + 1) s)) + from s (i + k)
from-pairs s zero i h = let y : i + 0 ≡ i = omega arith in rw (y, no-sum []) (omega arith)
from-pairs s (suc k) i h =
    let x : i + 1 + k ≡ i + suc k = omega arith in
    let rest : from s (i + 1) ≡ dotted_sum (take k (drop (i + 1) s)) (take k (drop (i + 1 + 1) s)) + from s (i + suc k) = rw x at (from-pairs s k (i + 1) (omega arith)) in
    rw (front s k i (omega arith), front s k (i + 1) (omega arith), sum-cons (get_or s i 0) (get_or s (i + 1) 0) (take k (drop (i + 1) s)) (take k (drop (i + 1 + 1) s))) (omega (arith, from_step s i (omega arith), rest))

pub record Counted (s : List ℕ) (n i : ℕ) : Type 0 where
  pub inside : i < length s
  pub few : n ≤ i
  pub total : n + from s i ≡ dotted_pairs s

pub none-dotted : (s : List ℕ) → length s ≡ 0 → 0 ≡ dotted_pairs s
unfolding dotted_after
none-dotted [] none = refl
none-dotted (b ∷ s) none = absurd (omega arith)

pub none-counted : {s : List ℕ} → (length s ≡ 0 → ⊥) → Counted s 0 0
none-counted {s} some =
    let more : 0 < length s = le-or-lt (length s) 0 (λ none. absurd (some (omega arith))) (λ h. h) in
    record { inside = more; few = omega arith; total = omega (arith, from_first s more) }

module _ {s : List ℕ} {n i : ℕ} (k : Counted s n i) where
  sum-most : (xs ys : List ℕ) → dotted_sum xs ys ≤ length xs
  unfolding dotted_sum
  sum-most [] ys = omega arith
  sum-most (x ∷ xs) [] = omega arith
  sum-most (x ∷ xs) (y ∷ ys) = omega (arith, dotted-most x y, sum-most xs ys)

  pairs-at : (e : ℕ) {d : ℕ} → i ≤ e → e < length s → d ≡ dotted_sum (part s i e) (part s (i + 1) (e + 1)) → from s i ≡ d + from s e
  pairs-at e onward h is =
      let x : i + (e - i) ≡ e = omega arith in
      let y : e + 1 - (i + 1) ≡ e - i = omega arith in
      (rw x at (from-pairs s (e - i) i (omega arith))) ∙ ap (λ (m : ℕ). m + from s e) (sym (is ∙ rw y))

  module _ (e : ℕ) {f : ℕ} (after : f ≡ e + 1) (onward : i ≤ e) (h : e < length s) where
    pub pairs-even : e ≤ i + 255 → (length (part s i e) ≡ length (part s (i + 1) f)) × (length (part s i e) ≤ 255)
    pairs-even small =
        let long = length_part s i e (omega arith) in
        (omega (arith, long, length_part s (i + 1) f (omega arith)), omega (arith, long))

    module _ {d : ℕ} (told : d ≡ dotted_sum (part s i e) (part s (i + 1) f)) where
      is : d ≡ dotted_sum (part s i e) (part s (i + 1) (e + 1))
      is = rw after at told

      pub block-counted : Counted s (n + d) e
      block-counted =
          record {
            inside = h;
            few = omega (arith, k.few, is, sum-most (part s i e) (part s (i + 1) (e + 1)), length_part s i e (omega arith));
            total = omega (arith, k.total, pairs-at e onward h is);
          }

      pub all-counted : length s ≤ f → n + d ≡ dotted_pairs s
      all-counted done = omega (arith, k.total, pairs-at e onward h is, from_last s e (omega arith))

-- A COLUMN laid, byte by byte
pub record Growing (s xs : List ℕ) (out₀ out : List ℕ) (before at i : ℕ) : Type 0 where
  pub most : i ≤ length s
  pub laying : Laying (grown s xs) (grown_after before (drop i s) (drop i xs)) out₀ at out

module _ {s xs : List ℕ} {size : ℕ} {out₀ : List ℕ} (r : ColumnRoom s xs size out₀) where
  pub none-growing : Growing s xs out₀ out₀ 0 0 0
  none-growing = record { most = omega arith; laying = none-laid (grown s xs) out₀ (omega (arith, length-grown 0 s xs r.one_each, r.counted, r.room)) }

  pub column-copied : {out : List ℕ} → size ≡ length s → out ≡ splice out₀ 0 xs → out ≡ overlay (grown s xs) out₀
  column-copied whole is = is ∙ splice-overlay out₀ xs ∙ ap (λ (l : List ℕ). overlay l out₀) (sym (ungrown 0 s xs r.one_each (omega (arith, r.counted))))

  module _ {out : List ℕ} {before at i : ℕ} (k : Growing s xs out₀ out before at i) where
    pub all-growing : length s ≤ i → out ≡ overlay (grown s xs) out₀
    all-growing done =
        let none : grown_after before (drop i s) (drop i xs) ≡ [] = rw (drop_of_length-le s done) (grown-end before (drop i xs)) in
        all_laid (grown s xs) out₀ at out (rw none at k.laying)

    module _ (h : i < length s) {d : ℕ} (is : d ≡ dotted_at before (get_or s i 0)) where
      step : grown_after before (drop i s) (drop i xs) ≡ replicate (1 + d) (get_or xs i 0) ++ grown_after (get_or s i 0) (drop (i + 1) s) (drop (i + 1) xs)
      step = rw is (grown-at s xs r.one_each before i h)

      pub value_room : (d ≤ 1) × (at + (1 + d) ≤ length out)
      value_room = (
        omega (arith, is, dotted-most before (get_or s i 0)),
        omega (arith, k.laying.room, ap length step, length-append (replicate (1 + d) (get_or xs i 0)) (grown_after (get_or s i 0) (drop (i + 1) s) (drop (i + 1) xs)), length-replicate (1 + d) (get_or xs i 0)),
      )

      pub one-growing : {out₁ : List ℕ} → out₁ ≡ splice out at (replicate (1 + d) (get_or xs i 0)) → Growing s xs out₀ out₁ (get_or s i 0) (at + (1 + d)) (i + 1)
      one-growing {out₁} now =
          record {
            most = omega arith;
            laying = piece-laid (grown s xs) (replicate (1 + d) (get_or xs i 0)) (grown_after (get_or s i 0) (drop (i + 1) s) (drop (i + 1) xs)) out₀ at out (rw step at k.laying) (at + (1 + d)) out₁ (rw (length-replicate (1 + d) (get_or xs i 0))) now;
          }
