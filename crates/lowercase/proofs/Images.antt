-- Laws of `lowerImage` and `images`: the table's facts, computed at every entry, and what follows of any code point.
use Prim.Native.Nat.{ℕ, ◌+◌, ◌≤◌, ◌<◌}
use mathlib.Core.Path.{◌≡◌, ◌∙◌, ap, refl, sym}
use mathlib.Core.Bool.{Bool, true, false, cond, ◌&&◌}
use mathlib.Core.List.{List, [], ◌∷◌, append-nil}
use mathlib.Mathlib.Data.Bool.Basic.{and_elim_left, and_elim_right}
use native.Mathlib.Omega.{arith}
use lib.Dec.{ltb, eqb}
use lib.ListN.{length, get_or}
use borrow.Author.Tests.{lt-ltb, le-ltb, ltb-true, eqb-true, ne_eqb}
use Rattle.buffers.specs.Every.{every_below}
use Rattle.buffers.proofs.Cases.{le-or-lt, true-or-false}
use Rattle.buffers.proofs.Every.{every-at}
use Rattle.utf8.specs.Scalar.{scalar, encoded, bytes_of, len_utf8}
use Rattle.code_point_blocks.specs.Codes.{text_of}
use Rattle.lowercase.specs.Images.{run, twins, lowercase_table, lower_image, dotted_i, dot, images, LowerTable}

-- the one test of an entry
fine : ℕ → Bool
fine c =
    ltb (lower_image c) 384 && scalar (lower_image c) && eqb (lower_image (lower_image c)) (lower_image c)
    && eqb (len_utf8 (lower_image c) + cond (eqb c dotted_i) 1 0) (len_utf8 c)

all-fine : every_below 384 fine ≡ true
unfolding every_below fine lower_image lowercase_table run twins scalar encoded bytes_of len_utf8
all-fine = refl

pub lower-table : LowerTable
unfolding fine
lower-table c h =
    let four = every-at 384 fine all-fine c h in
    let three = and_elim_left _ (eqb (len_utf8 (lower_image c) + cond (eqb c dotted_i) 1 0) (len_utf8 c)) four in
    let two = and_elim_left _ (eqb (lower_image (lower_image c)) (lower_image c)) three in
    record {
      below = ltb-true _ _ (and_elim_left _ (scalar (lower_image c)) two);
      is_scalar = and_elim_right (ltb (lower_image c) 384) _ two;
      stays = eqb-true _ _ (and_elim_right (ltb (lower_image c) 384 && scalar (lower_image c)) _ three);
      wide = eqb-true _ _ (and_elim_right (ltb (lower_image c) 384 && scalar (lower_image c) && eqb (lower_image (lower_image c)) (lower_image c)) _ four);
    }

-- an entry of the table, and a code point past it
pub lowered-entry : (c : ℕ) → c < 384 → lower_image c ≡ get_or lowercase_table c 0
unfolding lower_image
lowered-entry c h = rw (lt-ltb c 384 h)

pub lowered-past : (c : ℕ) → 384 ≤ c → lower_image c ≡ c
unfolding lower_image
lowered-past c h = rw (le-ltb c 384 h)

dotted-image : lower_image dotted_i ≡ 0x69
unfolding lower_image lowercase_table run twins
dotted-image = refl

-- any code point
pub lowered-scalar : (c : ℕ) → scalar c ≡ true → scalar (lower_image c) ≡ true
lowered-scalar c ok = le-or-lt 384 c (λ past. rw (lowered-past c past) ok) (λ h. (lower-table c h).is_scalar)

pub lowered-stays : (c : ℕ) → lower_image (lower_image c) ≡ lower_image c
lowered-stays c = le-or-lt 384 c (λ past. ap lower_image (lowered-past c past)) (λ h. (lower-table c h).stays)

pub lowered-undotted : (c : ℕ) → eqb (lower_image c) dotted_i ≡ false
lowered-undotted c =
    ne_eqb (lower_image c) dotted_i
    (λ is.
    let small : lower_image dotted_i ≡ dotted_i = ap lower_image (sym is) ∙ lowered-stays c ∙ is in
    absurd (omega (arith, small, dotted-image)))

lowered-wide : (c : ℕ) → len_utf8 (lower_image c) + cond (eqb c dotted_i) 1 0 ≡ len_utf8 c
lowered-wide c =
    le-or-lt 384 c
    (λ past. let other : eqb c dotted_i ≡ false = ne_eqb c dotted_i (λ is. absurd (omega arith)) in rw (lowered-past c past, other) (omega arith))
    (λ h. (lower-table c h).wide)

-- the code points in a character's place
pub images-one : (c : ℕ) → eqb c dotted_i ≡ false → images c ≡ lower_image c ∷ []
unfolding images
images-one c other = rw other

pub images-dotted : (c : ℕ) → eqb c dotted_i ≡ true → images c ≡ 0x69 ∷ dot ∷ []
unfolding images
images-dotted c is = rw (is, eqb-true c dotted_i is, dotted-image)

pub text-one : (c : ℕ) → text_of (c ∷ []) ≡ bytes_of c
unfolding text_of
text-one c = append-nil (bytes_of c)

pub dotted-text : text_of (0x69 ∷ dot ∷ []) ≡ 0x69 ∷ 0xCC ∷ 0x87 ∷ []
unfolding text_of encoded bytes_of scalar
dotted-text = refl

dotted-wide : len_utf8 dotted_i ≡ 2
unfolding encoded bytes_of scalar len_utf8
dotted-wide = refl

pub one-wide : (c : ℕ) → length (text_of (c ∷ [])) ≡ len_utf8 c
unfolding len_utf8
one-wide c = ap length (text-one c)

pub text-dotted : (c : ℕ) → eqb c dotted_i ≡ true → text_of (images c) ≡ 0x69 ∷ 0xCC ∷ 0x87 ∷ []
text-dotted c is = ap text_of (images-dotted c is) ∙ dotted-text

pub images-length : (c : ℕ) → length (text_of (images c)) ≡ len_utf8 c + cond (eqb c dotted_i) 1 0
images-length c =
    true-or-false (eqb c dotted_i)
    (λ is. ap length (text-dotted c is) ∙ rw (is, eqb-true c dotted_i is, dotted-wide))
    (λ other.
    let one = ap (λ (l : List ℕ). length (text_of l)) (images-one c other) ∙ one-wide (lower_image c) in
    rw other (omega (arith, one, rw other at (lowered-wide c))))
