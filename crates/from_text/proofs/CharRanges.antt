-- How the range of a byte's character is carried from byte to byte: its start forwards, its end backwards.
use Prim.Native.Nat.{ℕ, ◌+◌, ◌-◌, ◌≤◌, ◌<◌}
use mathlib.Core.Path.{◌≡◌, ◌∙◌, ap, refl}
use mathlib.Core.Bool.{true, false}
use mathlib.Core.List.{List}
use native.Mathlib.Omega.{arith}
use lib.ListN.{length, get_or, set}
use Rattle.buffers.specs.Splice.{overlay}
use Rattle.buffers.specs.Columns.{Filled}
use Rattle.buffers.proofs.Columns.{none_filled, filled-up, filled-down, filled-as, filled-after, filled-before, all-filled}
use Rattle.utf8.specs.Formed.{well_formed, continues}
use Rattle.utf8.specs.CharRanges.{char_start, char_end}
use Rattle.utf8.proofs.CharRanges.{Ranged, ranged, end-begun, end-carried}
use Rattle.note.specs.Starting.{starting}

-- the starts of the first i bytes stand in d, and `start` is the last of them
pub record StartsTo (s d₀ d : List ℕ) (start i : ℕ) : Type 0 where
  pub filled : Filled (char_start s) d₀ 0 i d
  pub carried : start ≡ char_start s (i - 1)
  pub most : i ≤ length s

pub no-starts : (s d : List ℕ) → StartsTo s d d 0 0
unfolding char_start
no-starts s d = record { filled = none_filled (char_start s) d 0; carried = refl; most = omega arith }

pub one_start : {s d₀ d : List ℕ} {start i x : ℕ} → StartsTo s d₀ d start i → i < length s → length s ≤ length d₀ → x ≡ char_start s i → StartsTo s d₀ (set d i x) x (i + 1)
one_start {s} {d₀} {d} {i = i} {x = x} w more room is =
    let back : i + 1 - 1 ≡ i = omega arith in
    record {
      filled = filled-up (char_start s) d₀ 0 i d x w.filled (omega arith) is;
      carried = rw back is;
      most = omega arith;
    }

-- the ends of the bytes from i on stand in d, and `end` is the one before them
pub record EndsFrom (s d₀ d : List ℕ) (end i : ℕ) : Type 0 where
  pub filled : Filled (char_end s) d₀ i (length s) d
  pub carried : 0 < i → end ≡ char_end s (i - 1)
  pub most : i ≤ length s

pub no-ends : (s d : List ℕ) → well_formed s ≡ true → EndsFrom s d d (length s) (length s)
no-ends s d p =
    record {
      filled = none_filled (char_end s) d (length s);
      carried = λ some. let r : Ranged s (length s - 1) = ranged s (length s - 1) p (omega arith) in omega arith;
      most = omega arith;
    }

-- a byte's end is written, and the end before it becomes x
module _ {s d₀ d : List ℕ} {end i : ℕ} (w : EndsFrom s d₀ d end i) (some : 0 < i) (room : length s ≤ length d₀) where
  one_end : (x : ℕ) → (0 < i - 1 → x ≡ char_end s (i - 1 - 1)) → EndsFrom s d₀ (set d (i - 1) end) x (i - 1)
  one_end x next =
      let last : i - 1 + 1 ≡ i = omega arith in
      record {
        filled = filled-down (char_end s) d₀ (i - 1) (length s) d end (rw last w.filled) room (w.carried some);
        carried = next;
        most = omega arith;
      }

  pub end-begins : well_formed s ≡ true → continues (get_or s (i - 1) 0) ≡ false → EndsFrom s d₀ (set d (i - 1) end) (i - 1) (i - 1)
  end-begins p new = one_end (i - 1) (end-begun s (i - 1) p (omega arith) new)

  pub end-goes-on : continues (get_or s (i - 1) 0) ≡ true → EndsFrom s d₀ (set d (i - 1) end) end (i - 1)
  end-goes-on more = one_end end (λ again. w.carried some ∙ end-carried s (i - 1) more again)

-- a block that is where its bytes are
pub block_here : (f : ℕ → ℕ) (d₀ : List ℕ) (i n : ℕ) (d : List ℕ) → Filled (λ k. f (i + (k - i))) d₀ i n d → Filled f d₀ i n d
block_here f d₀ i n d w =
    filled-as _ f d₀ i n d w (λ k from to. let here : i + (k - i) ≡ k = omega arith in ap f here)

-- the blocks from the text's end down to i, and the starts before i; the blocks up to i, and the ends from there on
pub all-starts : (s d₀ d d₁ : List ℕ) (i : ℕ) → length s ≤ length d₀ → Filled (char_start s) d₀ i (length s) d → Filled (char_start s) d 0 i d₁ → d₁ ≡ overlay (starting s).starts d₀
unfolding starting
all-starts s d₀ d d₁ i room w rest =
    all-filled (char_start s) d₀ (length s) d₁ (filled-before (char_start s) d₀ 0 i (length s) d d₁ w rest) room

pub all-ends : (s d₀ d d₁ : List ℕ) (i : ℕ) → length s ≤ length d₀ → Filled (char_end s) d₀ 0 i d → Filled (char_end s) d i (length s) d₁ → d₁ ≡ overlay (starting s).ends d₀
unfolding starting
all-ends s d₀ d d₁ i room w rest =
    all-filled (char_end s) d₀ (length s) d₁ (filled-after (char_end s) d₀ 0 i (length s) d d₁ w rest) room
