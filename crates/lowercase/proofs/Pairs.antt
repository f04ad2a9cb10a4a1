-- Laws of `givenAt`: a character of the table of two bytes, and what it gives laid down. And a byte alone, by comparison.
use Prim.Native.Nat.{ℕ, ◌+◌, ◌-◌, ◌*◌, ◌/◌, ◌%◌, ◌≤◌, ◌<◌}
use mathlib.Core.Path.{◌≡◌, ◌∙◌, ap, refl, sym}
use mathlib.Core.Bool.{Bool, true, false, ◌&&◌}
use mathlib.Core.List.{List, [], ◌∷◌, ◌++◌, append-nil}
use mathlib.Mathlib.Data.Bool.Basic.{and_elim_right}
use native.Mathlib.Omega.{arith}
use mir.Val.{bool_byte}
use lib.Dec.{leb, eqb}
use lib.ListN.{length, get_or, set, length-append}
use borrow.Author.Tests.{leb-true, lt-leb, eqb-true, eq-eqb, ne_eqb}
use Rattle.buffers.specs.Every.{every_below}
use Rattle.buffers.specs.Splice.{part, splice}
use Rattle.buffers.proofs.Booleans.{and_false_r}
use Rattle.buffers.proofs.Cases.{le-or-lt, true-or-false}
use Rattle.buffers.proofs.Every.{every-at}
use Rattle.buffers.proofs.Splice.{store-one, store-after, length-splice, splice-splice}
use Rattle.utf8.proofs.Formed.{continues-low, continues-high}
use Rattle.utf8.proofs.Scalar.{encoded-two}
use Rattle.lowercase.specs.Images.{run, twins, lowercase_table, lower_image, dotted_i}
use Rattle.lowercase.specs.Laying.{pair_code, lowered_byte, compared_byte, ComparedAsTable, lowered_each, given_at, laid_again, LatinRoom, LatinLaid}
use Rattle.lowercase.proofs.Images.{lower-table, lowered-entry, text-dotted}
use Rattle.lowercase.proofs.Bytes.{latin-both, latin-next, image-two, image-text, byte_high, length-each}

two-stored : (d : List ℕ) (at x y : ℕ) → at + 2 ≤ length d → set (set d at x) (at + 1) y ≡ splice d at (x ∷ y ∷ [])
two-stored d at x y h = rw (store-one d at x (omega arith)) (store-after d (x ∷ []) at y (omega arith))

three-stored : (d : List ℕ) (at x y z : ℕ) → at + 3 ≤ length d → set (set (set d at x) (at + 1) y) (at + 2) z ≡ splice d at (x ∷ y ∷ z ∷ [])
three-stored d at x y z h = rw (two-stored d at x y (omega arith)) (store-after d (x ∷ y ∷ []) at z (omega arith))

-- the character of two bytes at j, and what is laid for it
module _ {s : List ℕ} {j to : ℕ} {table out : List ℕ} {at : ℕ} (r : LatinRoom s j to table out at) where
  abbrev a : ℕ
  a = get_or s j 0

  abbrev b : ℕ
  b = get_or s (j + 1) 0

  abbrev c : ℕ
  c = pair_code (get_or s j 0) (get_or s (j + 1) 0)

  pub pair-next : j + 1 < length s
  pair-next = (latin-next s j r.formed r.more r.latin).0

  pub pair-within : (0xC2 ≤ a) × (a ≤ 0xC5) × (0x80 ≤ b) × (b < 0xC0)
  pair-within =
      let both = latin-both a r.latin in
      let goes = (latin-next s j r.formed r.more r.latin).1 in
      (both.0, both.1, continues-low b goes, continues-high b goes)

  pub pair_inside : (0x80 ≤ c) × (c < 384)
  pair_inside =
      let k = pair-within in
      (omega (arith, k.0, k.2), omega (arith, k.1, k.2, k.3))

  entry : get_or table c 0 ≡ lower_image c
  entry = rw r.tabled (sym (lowered-entry c pair_inside.1))

  long : length (given_at s j ++ laid_again s j to) ≡ length (given_at s j) + length (laid_again s j to)
  long = length-append (given_at s j) (laid_again s j to)

  module _ (differs : c ≡ 0x130 → ⊥) where
    other : eqb c dotted_i ≡ false
    other = ne_eqb c dotted_i differs

    none-again : laid_again s j to ≡ []
    unfolding laid_again
    none-again = rw other

    pub other-image : (0x80 ≤ get_or table c 0) × (get_or table c 0 < 384)
    other-image = rw entry (image-two c pair_inside.1 other pair_inside.0, (lower-table c pair_inside.1).below)

    text : given_at s j ≡ (0xC0 + get_or table c 0 / 64) ∷ (0x80 + get_or table c 0 % 64) ∷ []
    text = rw entry (image-text c pair_inside.1 other ∙ encoded-two (lower_image c) (image-two c pair_inside.1 other pair_inside.0) (omega (arith, (lower-table c pair_inside.1).below)))

    pub other-room : at + 2 ≤ length out
    other-room = omega (arith, r.room, long, ap length text)

    pub other-laid : LatinLaid s j to out at (at + 2) (set (set out at (0xC0 + get_or table c 0 / 64)) (at + 1) (0x80 + get_or table c 0 % 64))
    other-laid =
        record {
          reach = omega (arith, ap length text);
          holds = rw (none-again, text) (two-stored out at (0xC0 + get_or table c 0 / 64) (0x80 + get_or table c 0 % 64) other-room);
        }

  module _ (is : c ≡ 0x130) where
    dotted : eqb c dotted_i ≡ true
    dotted = eq-eqb c dotted_i is

    again : laid_again s j to ≡ lowered_each (part s (j + 2) to)
    unfolding laid_again
    again = rw dotted

    pub dotted-entry : get_or table c 0 ≡ 0x69
    unfolding lowercase_table run twins
    dotted-entry = rw (r.tabled, is)

    pub dotted-room : at + 3 ≤ length out
    dotted-room = omega (arith, r.room, long, ap length (text-dotted c dotted))

    stored_is : set (set (set out at (get_or table c 0)) (at + 1) 0xCC) (at + 2) 0x87 ≡ splice out at (given_at s j)
    stored_is = rw (text-dotted c dotted, dotted-entry) (three-stored out at 0x69 0xCC 0x87 dotted-room)

    reached : at + 3 ≡ at + length (given_at s j)
    reached = omega (arith, ap length (text-dotted c dotted))

    -- nothing of the block is after it
    pub dotted-last : to ≤ j + 2 → LatinLaid s j to out at (at + 3) (set (set (set out at (get_or table c 0)) (at + 1) 0xCC) (at + 2) 0x87)
    unfolding lowered_each
    dotted-last past =
        let z : to - (j + 2) ≡ 0 = omega arith in
        let none : laid_again s j to ≡ [] = again ∙ rw z in
        record { reach = reached; holds = rw (none, append-nil (given_at s j)) stored_is }

    -- or something is
    module _ (more : j + 2 < to) where
      pub again-room : at + 3 + length (part s (j + 2) to) ≤ length out
      again-room = omega (arith, r.room, long, reached, ap length again, length-each (part s (j + 2) to))

      pub dotted-laid : {out₁ : List ℕ} → out₁ ≡ splice (set (set (set out at (get_or table c 0)) (at + 1) 0xCC) (at + 2) 0x87) (at + 3) (lowered_each (part s (j + 2) to)) → LatinLaid s j to out at (at + 3) out₁
      dotted-laid now =
          record {
            reach = reached;
            holds = now ∙ rw (stored_is, reached, again) (splice-splice out (given_at s j) (lowered_each (part s (j + 2) to)) at (omega (arith, dotted-room)));
          }

      pub dotted-same : {out₁ : List ℕ} → out₁ ≡ splice (set (set (set out at (get_or table c 0)) (at + 1) 0xCC) (at + 2) 0x87) (at + 3) (lowered_each (part s (j + 2) to)) → length out₁ ≡ length out
      dotted-same now = ap length (dotted-laid now).holds ∙ length-splice out at (given_at s j ++ laid_again s j to) r.room

-- A BYTE ALONE, by comparison
low-compared : ℕ → Bool
low-compared b = eqb (compared_byte b) (lowered_byte b)

all-compared : every_below 0x80 low-compared ≡ true
unfolding every_below low-compared compared_byte lowered_byte lower_image lowercase_table run twins
all-compared = refl

pub compared-as-table : ComparedAsTable
unfolding compared_byte low-compared
compared-as-table b =
    le-or-lt 0x80 b
    (λ high.
    let none : (leb 0x41 b && leb b 0x5A) ≡ false = and_false_r (leb 0x41 b) _ (lt-leb b 0x5A (omega arith)) in
    rw (none, byte_high b high) (omega arith))
    (λ low. eqb-true _ _ (every-at 0x80 low-compared all-compared b low))

pub compared-byte : (b : ℕ) → b + bool_byte (leb 0x41 b && leb b 0x5A) * 32 ≡ lowered_byte b
unfolding compared_byte
compared-byte b =
    true-or-false (leb 0x41 b && leb b 0x5A)
    (λ t. rw t (rw t at (compared-as-table b)))
    (λ f. rw f (rw f at (compared-as-table b)))

pub compared-fits : (b : ℕ) → b < 256 → b + bool_byte (leb 0x41 b && leb b 0x5A) * 32 < 256
compared-fits b h =
    true-or-false (leb 0x41 b && leb b 0x5A)
    (λ t. rw t (omega (arith, leb-true b 0x5A (and_elim_right (leb 0x41 b) _ t))))
    (λ f. rw f (omega arith))
