-- Laws of a text that is laid singly or in blocks: the room, and block by block.
use Prim.Native.Nat.{ℕ, ◌+◌, ◌-◌, ◌≤◌, ◌<◌}
use mathlib.Core.Path.{◌≡◌, ◌∙◌, sym}
use mathlib.Core.Bool.{true, ◌&&◌}
use mathlib.Core.List.{List}
use mathlib.Mathlib.Data.Bool.Basic.{and_elim_left, and_elim_right}
use native.Mathlib.Omega.{arith}
use lib.Dec.{leb}
use lib.ListN.{length, get_or, drop}
use borrow.Author.Tests.{leb-true}
use Rattle.buffers.specs.Splice.{part, splice}
use Rattle.buffers.proofs.Splice.{length_part, part_end}
use Rattle.buffers.proofs.Over.{over-exact}
use Rattle.utf8.specs.Scalar.{len_utf8}
use Rattle.code_point_blocks.specs.Codes.{text_of, all_scalar}
use Rattle.code_point_blocks.specs.Laying.{TextLaid, CodesBlockRoom, EachBelow, or_all}
use Rattle.code_points.specs.Laying.{TextRoom}
use Rattle.code_point_blocks.proofs.Codes.{length-text, scalar-block, text-ascii}
use Rattle.code_point_blocks.proofs.Packing.{or-each}
use Rattle.code_point_blocks.proofs.Parts.{parts-size}
use Rattle.code_point_blocks.proofs.Texts.{Texts, no_text, next-size, some-characters}

-- room for one more, and for what is left
module _ {codes out₀ : List ℕ} {from until : ℕ} {out : List ℕ} {at i : ℕ} (k : Texts codes out₀ from until out at i) where
  pub character-room : i < length codes → TextRoom codes out₀ from until → (at + len_utf8 (get_or codes i 0) ≤ length out) × (until ≤ length out)
  character-room h r =
      (omega (arith, r.room, parts-size k.parts, next-size k h, k.parts.over.same), omega (arith, r.bounded, k.parts.over.same))

  pub rest-room : TextRoom codes out₀ from until → TextRoom (part codes i (length codes)) out at until
  rest-room r =
      rw (part_end codes i)
      (record { room = omega (arith, r.room, parts-size k.parts, k.parts.over.same); bounded = omega (arith, r.bounded, k.parts.over.same) })

-- a block, by its largest code point
module _ {codes out₀ : List ℕ} {from until : ℕ} (r : CodesBlockRoom codes out₀ from until) where
  pub singly-room : TextRoom codes out₀ from until
  singly-room = record { room = omega (arith, length-text codes, r.many, r.free, r.bounded); bounded = r.bounded }

  pub each_below : {most : ℕ} (n : ℕ) → most ≡ or_all 0 codes → most < n → EachBelow codes n
  each_below n e h i below = omega (arith, e, or-each 0 codes i below)

  pub ascii-laid : {out : List ℕ} → EachBelow codes 0x80 → out ≡ splice out₀ from codes → TextLaid codes out₀ from until (from + 64) out
  ascii-laid small is =
      let same : text_of codes ≡ codes = text-ascii codes r.scalars small in
      record { reached = rw same (omega (arith, r.many)); over = rw same (over-exact codes out₀ from until (omega (arith, r.many, r.free, r.bounded)) is) }

-- block by block
pub record Blocks (codes out₀ : List ℕ) (from until : ℕ) (out : List ℕ) (at i : ℕ) : Type 0 where
  pub texts : Texts codes out₀ from until out at i
  pub scalars : all_scalar (drop i codes) ≡ true

pub no_block : {codes out₀ : List ℕ} {from until : ℕ} → all_scalar codes ≡ true → Blocks codes out₀ from until out₀ from 0
no_block ok = record { texts = no_text; scalars = ok }

module _ {codes out₀ : List ℕ} {from until : ℕ} {out : List ℕ} {at i : ℕ} (k : Blocks codes out₀ from until out at i) (h : i + 64 ≤ length codes) where
  pub block_room : TextRoom codes out₀ from until → at + 256 ≤ until → CodesBlockRoom (part codes i (i + 64)) out at until
  block_room r free =
      record {
        many = length_part codes i (i + 64) h ∙ omega arith;
        scalars = and_elim_left (all_scalar (part codes i (i + 64))) (all_scalar (drop (i + 64) codes)) (sym (scalar-block codes i 64) ∙ k.scalars);
        free = free;
        bounded = omega (arith, r.bounded, k.texts.parts.over.same);
      }

  pub one_block : {at₁ : ℕ} {out₁ : List ℕ} → TextLaid (part codes i (i + 64)) out at until at₁ out₁ → Blocks codes out₀ from until out₁ at₁ (i + 64)
  one_block l =
      record {
        texts = some-characters k.texts 64 h l;
        scalars = and_elim_right (all_scalar (part codes i (i + 64))) (all_scalar (drop (i + 64) codes)) (sym (scalar-block codes i 64) ∙ k.scalars);
      }

pub another_block : (codes : List ℕ) (i at until : ℕ) → (leb 64 (length codes - i) && leb (at + 256) until) ≡ true → (i + 64 ≤ length codes) × (at + 256 ≤ until)
another_block codes i at until t =
    let many : 64 ≤ length codes - i = leb-true 64 (length codes - i) (and_elim_left (leb 64 (length codes - i)) (leb (at + 256) until) t) in
    (omega arith, leb-true (at + 256) until (and_elim_right (leb 64 (length codes - i)) (leb (at + 256) until) t))
