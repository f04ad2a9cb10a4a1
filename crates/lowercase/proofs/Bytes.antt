-- Laws of `loweredBytes`: a text walked by its bytes gives its characters' images.
use Prim.Native.Nat.{ℕ, zero, suc, ◌+◌, ◌-◌, ◌≤◌, ◌<◌}
use mathlib.Core.Path.{◌≡◌, ◌∙◌, ap, refl}
use mathlib.Core.Bool.{true, false, ◌&&◌}
use mathlib.Core.List.{List, [], ◌∷◌, ◌++◌}
use mathlib.Mathlib.Data.Bool.Basic.{and_elim_left, and_elim_right}
use native.Mathlib.Numerals.{add-one}
use native.Mathlib.Omega.{arith}
use lib.Dec.{leb, eqb}
use lib.ListN.{length, get_or, drop, drop_of_length-le}
use lib.Seq.{drop-cons, drop-drop, get_or-drop}
use borrow.Author.Tests.{le-leb, lt-leb, leb-true, lt-ltb, le-ltb, ne_eqb}
use Rattle.buffers.specs.Splice.{part}
use Rattle.buffers.proofs.Cases.{le-or-lt, true-or-false}
use Rattle.buffers.proofs.Booleans.{and-false-l, and_false_r}
use Rattle.buffers.proofs.Splice.{length_part, part-index}
use Rattle.utf8.specs.Formed.{announced, continues, well_formed, boundary}
use Rattle.utf8.specs.Scalar.{scalar, encoded, bytes_of, len_utf8}
use Rattle.utf8.proofs.Formed.{announced-one, announced-none, announced-two, announced-three, announced-four, announced-past, continues-low, continues-high}
use Rattle.utf8.proofs.Boundaries.{CharAt, char-at, boundary-at, boundary-zero}
use Rattle.utf8.proofs.Scalar.{bytes_of-scalar, encoded-one, encoded-two}
use Rattle.code_point_blocks.specs.Codes.{text_of}
use Rattle.code_point_blocks.proofs.Codes.{text-append}
use Rattle.edits.specs.Characters.{code_at, codes_of}
use Rattle.edits.proofs.Characters.{code-bytes, codes-none, codes-cons}
use Rattle.edits.proofs.Sifted.{code-size}
use Rattle.lowercase.specs.Images.{lower_image, dotted_i, images}
use Rattle.lowercase.specs.Lowering.{all_images}
use Rattle.lowercase.specs.Laying.{begins_latin, pair_code, lowered_byte, lowered_each, bytes_for, passed_by, lowered_from, lowered_bytes}
use Rattle.lowercase.proofs.Images.{lower-table, lowered-past, images-one, text-one}

-- one step of the walk
lowered-skip : (k : ℕ) (s : List ℕ) → lowered_from k s ≡ lowered_bytes (drop k s)
unfolding lowered_from lowered_bytes
lowered-skip zero s = refl
lowered-skip (suc k) [] = refl
lowered-skip (suc k) (b ∷ s) = lowered-skip k s

unrolled : (b : ℕ) (t : List ℕ) → lowered_bytes (b ∷ t) ≡ bytes_for b (get_or t 0 0) ++ lowered_from (passed_by b - 1) t
unfolding lowered_from lowered_bytes
unrolled b t = refl

pub lowered_none : lowered_bytes [] ≡ []
unfolding lowered_from lowered_bytes
lowered_none = refl

pub passed-some : (b : ℕ) → 1 ≤ passed_by b
unfolding passed_by
passed-some b = true-or-false (begins_latin b) (λ t. rw t (omega arith)) (λ f. rw f (omega arith))

pub lowered-at : (s : List ℕ) (i : ℕ) → i < length s → lowered_bytes (drop i s) ≡ bytes_for (get_or s i 0) (get_or s (i + 1) 0) ++ lowered_bytes (drop (i + passed_by (get_or s i 0)) s)
lowered-at s i h =
    let b : ℕ = get_or s i 0 in
    let far : suc i + (passed_by b - 1) ≡ i + passed_by b = omega (arith, passed-some b) in
    let next : get_or (drop (suc i) s) 0 0 ≡ get_or s (i + 1) 0 = get_or-drop (suc i) s 0 0 ∙ ap (λ (k : ℕ). get_or s k 0) (omega arith) in
    ap lowered_bytes (drop-cons s i 0 h) ∙ unrolled b (drop (suc i) s)
    ∙ rw (next, lowered-skip (passed_by b - 1) (drop (suc i) s), drop-drop (passed_by b - 1) (suc i) s, far)

-- the two kinds of bytes
pub latin-both : (b : ℕ) → begins_latin b ≡ true → (0xC2 ≤ b) × (b ≤ 0xC5)
unfolding begins_latin
latin-both b e = (leb-true 0xC2 b (and_elim_left _ (leb b 0xC5) e), leb-true b 0xC5 (and_elim_right (leb 0xC2 b) _ e))

pub latin-told : (b : ℕ) → (leb 0xC2 b && leb b 0xC5) ≡ begins_latin b
unfolding begins_latin
latin-told b = refl

pub latin : (b : ℕ) → 0xC2 ≤ b → b ≤ 0xC5 → begins_latin b ≡ true
unfolding begins_latin
latin b l h = rw (le-leb 0xC2 b l, le-leb b 0xC5 h)

pub below-latin : (b : ℕ) → b < 0xC2 → begins_latin b ≡ false
unfolding begins_latin
below-latin b h = and-false-l _ (leb b 0xC5) (lt-leb 0xC2 b h)

above-latin : (b : ℕ) → 0xC5 < b → begins_latin b ≡ false
unfolding begins_latin
above-latin b h = and_false_r (leb 0xC2 b) _ (lt-leb b 0xC5 h)

pub bytes-latin : (a b : ℕ) → begins_latin a ≡ true → bytes_for a b ≡ text_of (images (pair_code a b))
unfolding bytes_for
bytes-latin a b e = rw e

pub bytes-alone : (a b : ℕ) → begins_latin a ≡ false → bytes_for a b ≡ lowered_byte a ∷ []
unfolding bytes_for
bytes-alone a b e = rw e

pub passed-two : (a : ℕ) → begins_latin a ≡ true → passed_by a ≡ 2
unfolding passed_by
passed-two a e = rw e

pub passed-one : (a : ℕ) → begins_latin a ≡ false → passed_by a ≡ 1
unfolding passed_by
passed-one a e = rw e

-- a code point of the table has one byte or two; its image has as many, U+0130 apart
small-scalar : (c : ℕ) → c < 384 → scalar c ≡ true
unfolding scalar
small-scalar c h = rw (le-leb c 0x10FFFF (omega arith), lt-leb 0xD800 c (omega arith))

pub two-wide : (c : ℕ) → 0x80 ≤ c → c < 384 → len_utf8 c ≡ 2
unfolding len_utf8
two-wide c high inside = ap length (bytes_of-scalar c (small-scalar c inside) ∙ encoded-two c high (omega arith))

short : (c : ℕ) → c < 384 → length (encoded c) ≤ 2
short c h =
    le-or-lt 0x80 c (λ high. omega (arith, ap length (encoded-two c high (omega arith)))) (λ low. omega (arith, ap length (encoded-one c low)))

module _ (c : ℕ) (inside : c < 384) (other : eqb c dotted_i ≡ false) where
  wide : length (encoded (lower_image c)) ≡ length (encoded c)
  unfolding len_utf8
  wide =
      let k = rw other at (lower-table c inside).wide in
      omega (arith, k, ap length (bytes_of-scalar (lower_image c) (lower-table c inside).is_scalar), ap length (bytes_of-scalar c (small-scalar c inside)))

  pub image-one : c < 0x80 → lower_image c < 0x80
  image-one h =
      le-or-lt 0x80 (lower_image c)
      (λ high. absurd (omega (arith, wide, ap length (encoded-one c h), ap length (encoded-two (lower_image c) high (omega (arith, (lower-table c inside).below))))))
      (λ low. low)

  pub image-two : 0x80 ≤ c → 0x80 ≤ lower_image c
  image-two h =
      le-or-lt 0x80 (lower_image c)
      (λ high. high)
      (λ low. absurd (omega (arith, wide, ap length (encoded-one (lower_image c) low), ap length (encoded-two c h (omega arith)))))

  pub image-text : text_of (images c) ≡ encoded (lower_image c)
  image-text = ap text_of (images-one c other) ∙ text-one (lower_image c) ∙ bytes_of-scalar (lower_image c) (lower-table c inside).is_scalar

-- a byte alone: looked up below 80, else it stays
pub byte_low : (b : ℕ) → b < 0x80 → lowered_byte b ≡ lower_image b
unfolding lowered_byte
byte_low b h = rw (lt-ltb b 0x80 h)

pub byte_high : (b : ℕ) → 0x80 ≤ b → lowered_byte b ≡ b
unfolding lowered_byte
byte_high b h = rw (le-ltb b 0x80 h)

-- bytes that each give one
pub length-each : (s : List ℕ) → length (lowered_each s) ≡ length s
unfolding lowered_each
length-each [] = refl
length-each (b ∷ s) = ap suc (length-each s)

pub each_at : (s : List ℕ) (i : ℕ) → i < length s → get_or (lowered_each s) i 0 ≡ lowered_byte (get_or s i 0)
unfolding lowered_each
each_at [] i h = absurd (omega arith)
each_at (b ∷ s) zero h = refl
each_at (b ∷ s) (suc i) h = each_at s i (omega arith)

pub each_append : (s t : List ℕ) → lowered_each (s ++ t) ≡ lowered_each s ++ lowered_each t
unfolding lowered_each
each_append [] t = refl
each_append (b ∷ s) t = ap (◌∷◌ (lowered_byte b)) (each_append s t)

pub each-drop : (k : ℕ) (s : List ℕ) → drop k (lowered_each s) ≡ lowered_each (drop k s)
unfolding lowered_each
each-drop zero s = refl
each-drop (suc k) [] = refl
each-drop (suc k) (b ∷ s) = each-drop k s

-- so many from p on, of a text
pub lowered-alone : (s : List ℕ) (k p : ℕ) → p + k ≤ length s → ((i : ℕ) → p ≤ i → i < p + k → begins_latin (get_or s i 0) ≡ false) → lowered_bytes (drop p s) ≡ lowered_each (part s p (p + k)) ++ lowered_bytes (drop (p + k) s)
unfolding lowered_each
lowered-alone s zero p h each =
    let y : p + 0 ≡ p = omega arith in
    let z : p - p ≡ 0 = omega arith in
    rw (y, z)
lowered-alone s (suc k) p h each =
    let here = each p (omega arith) (omega arith) in
    let y : p + 1 + k ≡ p + suc k = omega arith in
    let z : p + suc k - p ≡ suc k = omega arith in
    let x : p + suc k - (p + 1) ≡ k = omega arith in
    let rest = rw (y, x) at (lowered-alone s k (p + 1) (omega arith) (λ i a b. each i (omega arith) (omega arith))) in
    lowered-at s p (omega arith)
    ∙ rw (bytes-alone (get_or s p 0) (get_or s (p + 1) 0) here, passed-one (get_or s p 0) here, rest, z, drop-cons s p 0 (omega arith), add-one p)

-- and stay, where none is below 80
each-high : (s : List ℕ) → ((i : ℕ) → i < length s → 0x80 ≤ get_or s i 0) → lowered_each s ≡ s
unfolding lowered_each
each-high [] high = refl
each-high (b ∷ s) high = rw (byte_high b (high 0 (omega arith))) (ap (◌∷◌ b) (each-high s (λ i h. high (suc i) (omega arith))))

-- how many bytes a lead byte announces at least
module _ (b : ℕ) (some : 1 ≤ announced b) where
  three-bytes : 0xE0 ≤ b → 3 ≤ announced b
  three-bytes three =
      le-or-lt 0xF0 b
      (λ four. le-or-lt 0xF5 b (λ past. absurd (omega (arith, announced-past b past))) (λ below. omega (arith, announced-four b four below)))
      (λ below. omega (arith, announced-three b three below))

  pub two_bytes : 0xC2 ≤ b → 2 ≤ announced b
  two_bytes lead =
      le-or-lt 0xE0 b (λ three. omega (arith, three-bytes three)) (λ two. omega (arith, announced-two b lead two))

-- the character at p
module _ (s : List ℕ) (p : ℕ) (formed : well_formed s ≡ true) (here : boundary s p ≡ true) (more : p < length s) where
  abbrev b : ℕ
  b = get_or s p 0

  abbrev w : ℕ
  w = announced (get_or s p 0)

  char : CharAt s p w
  char = char-at s p formed here more

  abbrev Given : Type 0
  Given = lowered_bytes (drop p s) ≡ text_of (images (code_at s p)) ++ lowered_bytes (drop (p + w) s)

  -- one byte
  pub code_one : b < 0x80 → code_at s p ≡ b
  unfolding code_at
  code_one h = rw (announced-one b h)

  given-one : b < 0x80 → Given
  given-one h =
      let other : eqb b dotted_i ≡ false = ne_eqb b dotted_i (λ is. absurd (omega arith)) in
      let alone : begins_latin b ≡ false = below-latin b (omega arith) in
      let text : text_of (images b) ≡ lower_image b ∷ [] = image-text b (omega arith) other ∙ encoded-one (lower_image b) (image-one b (omega arith) other h) in
      lowered-at s p more
      ∙ rw (bytes-alone b (get_or s (p + 1) 0) alone, passed-one b alone, byte_low b h, code_one h, text, announced-one b h)

  -- two bytes of the table
  pub code-two : 0xC2 ≤ b → b < 0xE0 → code_at s p ≡ pair_code b (get_or s (p + 1) 0)
  unfolding code_at
  code-two l h = rw (announced-two b l h)

  given-latin : 0xC2 ≤ b → b ≤ 0xC5 → Given
  given-latin l h =
      let is : begins_latin b ≡ true = latin b l h in
      lowered-at s p more
      ∙ rw (bytes-latin b (get_or s (p + 1) 0) is, passed-two b is, code-two l (omega arith), announced-two b l (omega arith))

  -- any other: its code point is past the table
  pub code-past : 0xC5 < b → 384 ≤ code_at s p
  unfolding len_utf8
  code-past h =
      le-or-lt 384 (code_at s p)
      (λ past. past)
      (λ low.
      let k = ap length (bytes_of-scalar (code_at s p) (small-scalar (code_at s p) low)) in
      le-or-lt 0xE0 b
      (λ three. absurd (omega (arith, code-size s p formed here more, k, short (code_at s p) low, three-bytes b char.positive three)))
      (λ two. absurd (omega (arith, low, code-two (omega arith) two))))

  given-past : 0xC5 < b → Given
  given-past h =
      let c : ℕ = code_at s p in
      let past : 384 ≤ c = code-past h in
      let other : eqb c dotted_i ≡ false = ne_eqb c dotted_i (λ is. absurd (omega arith)) in
      let text : text_of (images c) ≡ bytes_of c = ap text_of (images-one c other) ∙ text-one (lower_image c) ∙ ap bytes_of (lowered-past c past) in
      let long : length (part s p (p + w)) ≡ p + w - p = length_part s p (p + w) char.inside in
      let byte : (i : ℕ) → p ≤ i → i < p + w → (0x80 ≤ get_or s i 0) × (begins_latin (get_or s i 0) ≡ false) =
      λ i a u. le-or-lt i p
      (λ first. let z : i ≡ p = omega arith in rw z (omega arith, above-latin b h))
      (λ later.
      let goes = char.rest i later u in
      (continues-low (get_or s i 0) goes, below-latin (get_or s i 0) (omega (arith, continues-high (get_or s i 0) goes)))) in
      let same : lowered_each (part s p (p + w)) ≡ part s p (p + w) = each-high (part s p (p + w)) (λ i u. rw (part-index s p (p + w) i (omega arith)) (byte (p + i) (omega arith) (omega arith)).0) in
      lowered-alone s w p char.inside (λ i a u. (byte i a u).1) ∙ rw (text, code-bytes s p formed here more, same)

  given-char : Given
  given-char =
      le-or-lt 0x80 b
      (λ high. le-or-lt 0xC2 b
      (λ lead. le-or-lt b 0xC5 (λ u. given-latin lead u) (λ u. given-past u))
      (λ none. absurd (omega (arith, char.positive, announced-none b high none))))
      (λ low. given-one low)

-- INDUCTION OVER THE CHARACTERS of a well-formed text: what holds at its end, and at each character if it does after it,
-- holds at its beginning
module _ (s : List ℕ) (formed : well_formed s ≡ true) (P : ℕ → Type 0) (done : (p : ℕ) → length s ≤ p → P p)
    (step : (p : ℕ) → boundary s p ≡ true → p < length s → P (p + announced (get_or s p 0)) → P p) where
  from-char : (fuel p : ℕ) → boundary s p ≡ true → length s ≤ p + fuel → P p
  from-char zero p here h = done p (omega arith)
  from-char (suc fuel) p here h =
      le-or-lt (length s) p
      (done p)
      (λ more.
      let char = char-at s p formed here more in
      step p here more (from-char fuel (p + announced (get_or s p 0)) char.ends (omega (arith, char.positive))))

  pub by-chars : P 0
  by-chars = from-char (length s) 0 (boundary-zero s formed) (omega arith)

pub lowered-text : (s : List ℕ) → well_formed s ≡ true → lowered_bytes s ≡ text_of (all_images (codes_of s))
unfolding text_of all_images
lowered-text s formed =
    by-chars s formed (λ p. lowered_bytes (drop p s) ≡ text_of (all_images (codes_of (drop p s))))
    (λ p past. rw (drop_of_length-le s past, codes-none, lowered_none))
    (λ p here more rest.
    given-char s p formed here more
    ∙ rw (codes-cons s p formed here more, text-append (images (code_at s p)) (all_images (codes_of (drop (p + announced (get_or s p 0)) s))))
    (ap (◌++◌ (text_of (images (code_at s p)))) rest))

-- a byte that begins a character of the table has the next one after it
pub latin-next : (s : List ℕ) (i : ℕ) → well_formed s ≡ true → i < length s → begins_latin (get_or s i 0) ≡ true → (i + 1 < length s) × (continues (get_or s (i + 1) 0) ≡ true)
latin-next s i formed h is =
    let b : ℕ = get_or s i 0 in
    let both = latin-both b is in
    let here : boundary s i ≡ true = boundary-at s i (omega arith) (true-or-false (continues b) (λ goes. absurd (omega (arith, both.0, continues-high b goes))) (λ new. new)) in
    let char = char-at s i formed here h in
    let two = announced-two b both.0 (omega (arith, both.1)) in
    (omega (arith, char.inside, two), char.rest (i + 1) (omega arith) (omega (arith, two)))
