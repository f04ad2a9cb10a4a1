-- Laws of a text that is laid code point by code point, or block by block.
use Prim.Native.Nat.{ℕ, ◌+◌, ◌*◌, ◌/◌, ◌≤◌, ◌<◌}
use mathlib.Core.Path.{◌≡◌, ◌∙◌, ap}
use mathlib.Core.List.{List}
use native.Mathlib.Omega.{arith}
use lib.ListN.{length, get_or, drop, length-append}
use Rattle.buffers.specs.Splice.{part, splice}
use Rattle.buffers.specs.Columns.{Filled}
use Rattle.buffers.specs.Over.{Over}
use Rattle.utf8.specs.Scalar.{bytes_of}
use Rattle.utf8.specs.Scalar.{len_utf8}
use Rattle.code_point_blocks.specs.Codes.{text_of}
use Rattle.code_point_blocks.specs.Laying.{TextLaid, CodesBlockRoom, EachBelow, packed_code, word_bytes}
use Rattle.code_point_blocks.proofs.Codes.{text-cons, text-end, text-block, scalar-at}
use Rattle.code_point_blocks.proofs.Packing.{Packing, packing, word-laid}
use Rattle.code_point_blocks.proofs.Parts.{Parts, no_part, one-part, all-parts}

-- the bytes of those before i stand there
pub record Texts (codes out₀ : List ℕ) (from until : ℕ) (out : List ℕ) (at i : ℕ) : Type 0 where
  pub most : i ≤ length codes
  pub parts : Parts (text_of codes) (text_of (drop i codes)) out₀ from until at out

pub no_text : {codes out₀ : List ℕ} {from until : ℕ} → Texts codes out₀ from until out₀ from 0
no_text = record { most = omega arith; parts = no_part }

module _ {codes out₀ : List ℕ} {from until : ℕ} {out : List ℕ} {at i : ℕ} (k : Texts codes out₀ from until out at i) where
  module _ (h : i < length codes) where
    pub next-size : length (text_of (drop i codes)) ≡ len_utf8 (get_or codes i 0) + length (text_of (drop (i + 1) codes))
    unfolding len_utf8
    next-size = ap length (text-cons codes i h) ∙ length-append (bytes_of (get_or codes i 0)) (text_of (drop (i + 1) codes))

    pub one-character : {more : ℕ} {out₁ : List ℕ} → (more ≡ len_utf8 (get_or codes i 0)) × Over (bytes_of (get_or codes i 0)) out at until out₁ → Texts codes out₀ from until out₁ (at + more) (i + 1)
    unfolding len_utf8
    one-character o =
        record { most = omega arith; parts = one-part k.parts (bytes_of (get_or codes i 0)) (text_of (drop (i + 1) codes)) (text-cons codes i h) (rw o.0) o.1 }

  -- so many more
  module _ (n : ℕ) (h : i + n ≤ length codes) where
    pub some-characters : {at₁ : ℕ} {out₁ : List ℕ} → TextLaid (part codes i (i + n)) out at until at₁ out₁ → Texts codes out₀ from until out₁ at₁ (i + n)
    some-characters l =
        record { most = h; parts = one-part k.parts (text_of (part codes i (i + n))) (text_of (drop (i + n) codes)) (text-block codes i n) l.reached l.over }

  pub all-characters : length codes ≤ i → TextLaid codes out₀ from until at out
  all-characters h = let done = all-parts k.parts (text-end codes h) in record { reached = done.0; over = done.1 }

-- word by word
pub record Words (codes out₀ : List ℕ) (from until : ℕ) (out : List ℕ) (at i : ℕ) : Type 0 where
  pub texts : Texts codes out₀ from until out at i
  pub near : at ≤ from + i * 4

module _ {codes out₀ : List ℕ} {from until : ℕ} (r : CodesBlockRoom codes out₀ from until) (small : EachBelow codes 0x10000) {out : List ℕ} {at i : ℕ} (k : Words codes out₀ from until out at i) (h : i < 64) where
  code : Packing (get_or codes i 0)
  code = packing (get_or codes i 0) (scalar-at codes i r.scalars (omega (arith, r.many))) (small i (omega (arith, r.many)))

  pub word_room : at + 4 ≤ length out
  word_room = omega (arith, k.near, r.free, r.bounded, k.texts.parts.over.same)

  module _ {words₀ words : List ℕ} (f : Filled (λ j. packed_code (get_or codes j 0)) words₀ 0 64 words) where
    word : get_or words i 0 ≡ packed_code (get_or codes i 0)
    word = f.within i (omega arith) h

    pub word-few : get_or words i 0 / 16777216 ≤ 4
    word-few = rw word (omega (arith, code.wide, code.few))

    pub one_word : {out₁ : List ℕ} → out₁ ≡ splice out at (word_bytes (get_or words i 0)) → Words codes out₀ from until out₁ (at + get_or words i 0 / 16777216) (i + 1)
    unfolding len_utf8
    one_word stored =
        record {
          texts = one-character k.texts (omega (arith, r.many)) (rw word code.wide, word-laid code word (omega (arith, k.near, r.free)) (omega (arith, r.bounded, k.texts.parts.over.same)) stored);
          near = omega (arith, k.near, word-few);
        }

pub all_words : {codes out₀ : List ℕ} {from until : ℕ} {out : List ℕ} {at i : ℕ} → CodesBlockRoom codes out₀ from until → Words codes out₀ from until out at i → 64 ≤ i → TextLaid codes out₀ from until at out
all_words r k h = all-characters k.texts (omega (arith, r.many))
