-- The first bytes of a block, by flags: the bytes among them that begin a character are counted, one byte after the other.
use Prim.Native.Nat.{ℕ, ◌+◌, ◌-◌, ◌≤◌, ◌<◌, min}
use mathlib.Core.Path.{◌≡◌, ◌∙◌, ap, refl, sym}
use mathlib.Core.Bool.{Bool, true, false, not}
use mathlib.Core.List.{List}
use native.Mathlib.Omega.{arith}
use mir.Val.{bool_byte}
use lib.Bits.{bit_and}
use lib.ListN.{length, get_or, replicate, get_or-replicate, get_or-append}
use lib.Seq.{get_or-append-add}
use Rattle.buffers.specs.Splice.{part, splice}
use Rattle.buffers.proofs.Cases.{le-or-lt}
use Rattle.buffers.proofs.Splice.{length_part, part-index}
use Rattle.utf8.specs.Formed.{continues}
use Rattle.utf8.specs.Chars.{leads}
use Rattle.utf8.specs.Counting.{Counted}
use Rattle.utf8.proofs.Chars.{none-counted, flag-counted, counted-le, all-counted}
use Rattle.char_offsets.specs.Positions.{index_of}
use Rattle.char_offsets.specs.Steps.{IndexKnown}
use Rattle.char_offsets.proofs.PairTold.{moved_on}
use Rattle.char_columns.specs.Steps.{Near, near_flags}

-- the flags of a block, as they are filled
pub flags-made : {flags : List ℕ} → flags ≡ splice (replicate 32 0) 0 (replicate 16 1) → flags ≡ near_flags
unfolding splice
flags-made is = is

-- the flag of a byte of a block is 1 for the first n, and 0 for the others
flag-first : (n j : ℕ) → n ≤ 16 → j < n → get_or near_flags (16 - n + j) 0 ≡ 1
flag-first n j few low = get_or-append (replicate 16 1) (replicate 16 0) 0 (16 - n + j) (omega arith) ∙ get_or-replicate 16 (16 - n + j) 1 0 (omega arith)

flag-past : (n j : ℕ) → n ≤ 16 → n ≤ j → j < 16 → get_or near_flags (16 - n + j) 0 ≡ 0
flag-past n j few past more =
    let here : 16 - n + j ≡ 16 + (j - n) = omega arith in
    rw here (get_or-append-add (replicate 16 1) (replicate 16 0) (j - n) 0 ∙ get_or-replicate 16 (j - n) 0 0 (omega arith))

and_one : (t : Bool) → bit_and (bool_byte t) 1 ≡ bool_byte t
and_one true = refl
and_one false = refl

and_none : (t : Bool) → bit_and (bool_byte t) 0 ≡ 0
and_none true = refl
and_none false = refl

-- the first j bytes of a block are looked at
pub record Nearing (s : List ℕ) (from n count j : ℕ) : Type 0 where
  pub most : j ≤ 16
  pub counted : Counted (part s from (from + n)) count (min j n)

module _ {s : List ℕ} {from n : ℕ} (r : Near s from n) where
  near-long : length (part s from (from + n)) ≡ n
  near-long = length_part s from (from + n) (omega (arith, r.few, r.inside)) ∙ omega arith

  pub none-near : Nearing s from n 0 0
  none-near =
      let none : min 0 n ≡ 0 = omega arith in
      record { most = omega arith; counted = rw none none-counted }

  module _ {count j : ℕ} (k : Nearing s from n count j) where
    pub next-near : j < 16 → {t : Bool} → t ≡ continues (get_or s (from + j) 0) → {flags : List ℕ} → flags ≡ near_flags
        → Nearing s from n (count + bit_and (bool_byte (not t)) (get_or flags (16 - n + j) 0)) (j + 1)
    next-near more {t} e same =
        record {
          most = omega arith;
          counted =
              le-or-lt n j
              (λ past.
              let unmoved : min (j + 1) n ≡ min j n = omega arith in
              let sum : count + 0 ≡ count = omega arith in
              rw (same, flag-past n j r.few past more, and_none (not t), unmoved, sum) k.counted)
              (λ low.
              let on : min (j + 1) n ≡ j + 1 = omega arith in
              let here : min j n ≡ j = omega arith in
              let byte : t ≡ continues (get_or (part s from (from + n)) j 0) = e ∙ ap continues (sym (part-index s from (from + n) j (omega arith))) in
              rw (same, flag-first n j r.few low, and_one (not t), on) (flag-counted (rw here at k.counted) (omega (arith, near-long)) byte));
        }

    pub near-small : count ≤ 16
    near-small = omega (arith, counted-le k.counted, k.most)

    pub all_near : 16 ≤ j → count ≡ leads (part s from (from + n))
    all_near done =
        let all : min j n ≡ n = omega (arith, r.few) in
        all-counted (rw all at k.counted) (omega (arith, near-long))

-- the character of a byte, from one before it
pub moved-near : {most : ℕ} {s : List ℕ} {at index : ℕ} (to : ℕ) {r : ℕ} → IndexKnown most s at index → at ≤ to → to < length s
    → r ≡ leads (part s (at + 1) (at + 1 + (to - at))) → index + r ≡ index_of s to
moved-near {at = at} to known low below is =
    let end : at + 1 + (to - at) ≡ to + 1 = omega arith in
    moved_on to known low below (rw end at is)
