-- Laws of `startNumber` and `endNumber`: the numbers of one pair, case by case as the code comes to them.
use Prim.Native.Nat.{ℕ, zero, suc, ◌+◌, ◌-◌, ◌≤◌, ◌<◌, min}
use mathlib.Core.Path.{◌≡◌, ◌∙◌, ap, refl, sym}
use mathlib.Core.Bool.{true}
use mathlib.Core.List.{List}
use native.Mathlib.Omega.{arith}
use lib.Dec.{ltb}
use lib.ListN.{length, get_or}
use borrow.Author.Tests.{lt-leb, lt-ltb, le-ltb, ltb-true}
use Rattle.buffers.proofs.Cases.{le-or-lt}
use Rattle.buffers.proofs.Every.{every-at}
use Rattle.utf8.specs.Table.{within}
use Rattle.utf8.specs.Formed.{continues}
use Rattle.validity.specs.Texts.{ascii}
use Rattle.char_offsets.specs.Positions.{index_of, end_index, pair_of}
use Rattle.char_offsets.specs.Steps.{IndexKnown}
use Rattle.char_offsets.proofs.CharOffsetsList.{known-none}
use Rattle.char_offsets.proofs.PairTold.{end-inside, end-last, end-past}
use Rattle.char_columns.specs.declared.OffsetType.TheVariants.{Char}
use Rattle.char_columns.specs.declared.Cursor.{Cursor}
use Rattle.char_columns.specs.Numbers.{start_number, end_number}
use Rattle.char_columns.specs.Steps.{BothKnown, Stepped, PlainEnd}

-- the text's beginning, whose character is the first
abbrev pub zero-cursor : Cursor
zero-cursor = record { at = 0; index = 0 }

pub both_zero : {most : ℕ} {s : List ℕ} → length s ≤ most → BothKnown most s zero-cursor zero-cursor
both_zero short = record { first_known = known-none short; last_known = known-none short }

-- a byte inside the text, and its character
pub cursor-at : {most : ℕ} {s : List ℕ} {at index : ℕ} → length s ≤ most → at < length s → index ≡ index_of s at → IndexKnown most s at index
cursor-at short below is = record { short = short; inside = omega arith; so_far = is }

-- a start where the last end was
pub start-same : {most : ℕ} {s : List ℕ} {a : ℕ} {first last : Cursor} → BothKnown most s first last → a ≡ last.at → last.index ≡ index_of s a
start-same {s = s} known is = known.last_known.so_far ∙ ap (index_of s) (sym is)

-- in a text of bytes below 80 each byte is a character
ascii-index : (s : List ℕ) (b : ℕ) → ascii s ≡ true → b < length s → index_of s b ≡ b
unfolding index_of ascii continues within
ascii-index s zero e h = refl
ascii-index s (suc b) e h =
    let low : get_or s (suc b) 0 < 0x80 = ltb-true (get_or s (suc b) 0) 0x80 (every-at (length s) (λ i. ltb (get_or s i 0) 0x80) e (suc b) h) in
    rw (lt-leb 0x80 (get_or s (suc b) 0) low, ascii-index s b e (omega arith)) (omega arith)

-- the character past an end, from that of the last byte there or before
pub end-near : (s : List ℕ) (a e : ℕ) {at past : ℕ} → a < length s → e ≤ length s → at ≡ min e (length s - 1) → past ≡ index_of s at → past + (e - at) ≡ end_index s a e
end-near s a e {at} {past} some most is l =
    le-or-lt (length s) e
    (λ whole.
    let back : at ≡ e - 1 = omega arith in
    let told : end_index s a e ≡ index_of s (e - 1) + 1 = (end-last a e some (omega arith)).right s refl in
    let here : past ≡ index_of s (e - 1) = l ∙ ap (index_of s) back in
    omega (arith, told, here, back))
    (λ below.
    let same : at ≡ e = omega arith in
    let told : end_index s a e ≡ index_of s e + 0 = (end-inside a e some below).right s refl in
    let here : past ≡ index_of s e = l ∙ ap (index_of s) same in
    omega (arith, told, here, same))

module _ (s : List ℕ) (a e : ℕ) where
  start-beyond : length s ≤ a → a ≡ start_number s Char a e
  unfolding start_number pair_of
  start-beyond past = rw (le-ltb a (length s) past)

  end-beyond : length s ≤ a → e ≡ end_number s Char a e
  unfolding end_number pair_of
  end-beyond past = rw (le-ltb a (length s) past)

  start-mapped : {i : ℕ} → a < length s → i ≡ index_of s a → i ≡ start_number s Char a e
  unfolding start_number pair_of
  start-mapped below f = rw (lt-ltb a (length s) below) f

  end-mapped : {j : ℕ} → a < length s → j ≡ end_index s a e → j ≡ end_number s Char a e
  unfolding end_number pair_of
  end-mapped below l = rw (lt-ltb a (length s) below) l

  module _ {most : ℕ} {first last : Cursor} (known : BothKnown most s first last) where
    pub unmapped : length s ≤ a → Stepped most s a e (record { start = a; end = e; first = first; last = last })
    unmapped past = record { start_is = start-beyond past; end_is = end-beyond past; known = known }

    pub mapped-chars : {i j : ℕ} → a < length s → i ≡ index_of s a → j ≡ end_index s a e → Stepped most s a e (record { start = i; end = j; first = first; last = last })
    mapped-chars below f l = record { start_is = start-mapped below f; end_is = end-mapped below l; known = known }

  -- where each byte is a character
  module _ (plain : ascii s ≡ true) where
    pub plain-start : a ≡ start_number s Char a e
    plain-start = le-or-lt (length s) a start-beyond (λ below. start-mapped below (sym (ascii-index s a plain below)))

    plain-end-past : a < length s → length s < e → a + 2 ≡ end_number s Char a e
    plain-end-past below past = end-mapped below (omega (arith, (end-past a e below past).right s refl, ascii-index s a plain below))

    plain-end-inside : a < length s → e ≤ length s → e ≡ end_number s Char a e
    plain-end-inside below most =
        end-mapped below
        (le-or-lt (length s) e
        (λ whole. omega (arith, (end-last a e below (omega arith)).right s refl, ascii-index s (e - 1) plain (omega arith)))
        (λ inside. omega (arith, (end-inside a e below inside).right s refl, ascii-index s e plain inside)))

module _ {size a e : ℕ} where
  pub plain-past : {r : ℕ} → a < size → size < e → r ≡ a + 2 → PlainEnd size a e r
  plain-past below past is = record { right = λ s long plain. is ∙ plain-end-past s a e plain (omega arith) (omega arith) }

  pub plain-inside : a < size → e ≤ size → PlainEnd size a e e
  plain-inside below most = record { right = λ s long plain. plain-end-inside s a e plain (omega arith) (omega arith) }

  pub plain-beyond : size ≤ a → PlainEnd size a e e
  plain-beyond past = record { right = λ s long plain. end-beyond s a e (omega arith) }
