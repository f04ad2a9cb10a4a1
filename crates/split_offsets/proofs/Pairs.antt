-- A number of each span by its bytes, which are kept or turned into characters.
use Prim.Native.Nat.{ℕ, ◌+◌, ◌-◌, ◌≤◌}
use mathlib.Core.Path.{◌≡◌, ◌∙◌, ap, refl, sym}
use mathlib.Core.List.{List, [], ◌∷◌, map}
use native.Mathlib.Omega.{arith}
use lib.ListN.{length, take}
use Rattle.buffers.specs.Splice.{overlay}
use Rattle.buffers.proofs.Splice.{take-overlay, overlay-long, overlay-overlay}
use Rattle.spans.specs.Packing.{span_start, span_end}
use Rattle.convert.specs.declared.OffsetReferential.{OffsetReferential}
use Rattle.char_columns.specs.declared.OffsetType.{OffsetType}
use Rattle.char_columns.specs.declared.OffsetType.TheVariants.{Byte, Char}
use Rattle.char_columns.specs.Numbers.{start_number, end_number}
use Rattle.char_columns.specs.Steps.{each_pair, PairsReady, CharsCounted}
use Rattle.split_offsets.specs.Steps.{each_span, SpansReady, BytesWritten, SpansConverted}
use Rattle.split_offsets.proofs.Converting.{spans-size}

-- the number of each span is that of its bytes
pub pairs-each : (number : ℕ → ℕ → ℕ) (starts ends : List ℕ) (shift : ℕ) (side : OffsetReferential) (sum : ℕ) (from to : List ℕ)
    → each_pair number (each_span (λ a e. a) starts ends shift side sum from to) (each_span (λ a e. e) starts ends shift side sum from to) ≡ each_span number starts ends shift side sum from to
unfolding each_pair each_span
pairs-each number starts ends shift side sum [] to = refl
pairs-each number starts ends shift side sum (a ∷ from) [] = refl
pairs-each number starts ends shift side sum (a ∷ from) (b ∷ to) = rw (pairs-each number starts ends shift side (sum + (b - a)) from to)

pub each_same : (f g : ℕ → ℕ → ℕ) → ((a e : ℕ) → f a e ≡ g a e) → (starts ends : List ℕ) (shift : ℕ) (side : OffsetReferential) (sum : ℕ) (from to : List ℕ) → each_span f starts ends shift side sum from to ≡ each_span g starts ends shift side sum from to
unfolding each_span
each_same f g h starts ends shift side sum [] to = refl
each_same f g h starts ends shift side sum (a ∷ from) [] = refl
each_same f g h starts ends shift side sum (a ∷ from) (b ∷ to) = rw (h _ _, each_same f g h starts ends shift side (sum + (b - a)) from to)

-- BYTES, kept or turned into characters
take-front : (r d : List ℕ) {n : ℕ} → length r ≡ n → take n (overlay r d) ≡ r
take-front r d e = rw (← e) (take-overlay r d)

module _ {most : ℕ} {starts ends : List ℕ} {shift count : ℕ} {spans₀ to₀ : List ℕ} (r : SpansReady most starts ends shift count spans₀ to₀) {side : OffsetReferential} {from to : List ℕ} (w : BytesWritten starts ends shift side count spans₀ to₀ from to) where
  abbrev each : (ℕ → ℕ → ℕ) → List ℕ
  each number = each_span number starts ends shift side 0 (map span_start (take count spans₀)) (map span_end (take count spans₀))

  starts-front : take count from ≡ each (λ a e. a)
  starts-front = ap (take count) w.starts_are ∙ take-front (each (λ a e. a)) spans₀ (spans-size r (λ a e. a) side)

  ends-front : take count to ≡ each (λ a e. e)
  ends-front = ap (take count) w.ends_are ∙ take-front (each (λ a e. e)) to₀ (spans-size r (λ a e. e) side)

  pub pairs-ready : {original : List ℕ} → length original ≤ most → PairsReady most original count from to
  pairs-ready short =
      let first : length (each (λ a e. a)) ≤ length from = rw w.starts_are (overlay-long (each (λ a e. a)) spans₀) in
      let last : length (each (λ a e. e)) ≤ length to = rw w.ends_are (overlay-long (each (λ a e. e)) to₀) in
      record {
        short = short;
        starts_room = omega (arith, first, spans-size r (λ a e. a) side);
        ends_room = omega (arith, last, spans-size r (λ a e. e) side);
      }

  pub bytes-kept : (original : List ℕ) {unit : OffsetType} → unit ≡ Byte → SpansConverted original starts ends shift side unit count spans₀ to₀ from to
  unfolding start_number end_number
  bytes-kept original is =
      rw is
      (record {
        starts_are = w.starts_are ∙ rw (each_same (λ a e. a) (start_number original Byte) (λ a e. refl) starts ends shift side 0 (map span_start (take count spans₀)) (map span_end (take count spans₀)));
        ends_are = w.ends_are ∙ rw (each_same (λ a e. e) (end_number original Byte) (λ a e. refl) starts ends shift side 0 (map span_start (take count spans₀)) (map span_end (take count spans₀)));
      })

  turned : (number other : ℕ → ℕ → ℕ) (d₀ : List ℕ) → overlay (each number) (overlay (each other) d₀) ≡ overlay (each number) d₀
  turned number other d₀ = overlay-overlay (each number) (each other) d₀ (spans-size r number side ∙ sym (spans-size r other side))

  pub chars-put : {original : List ℕ} {unit : OffsetType} → unit ≡ Char → {from₁ to₁ : List ℕ} → CharsCounted original count from to from₁ to₁ → SpansConverted original starts ends shift side unit count spans₀ to₀ from₁ to₁
  chars-put {original} is c =
      let pairs : (number : ℕ → ℕ → ℕ) → each_pair number (take count from) (take count to) ≡ each number = λ number. rw (starts-front, ends-front) (pairs-each number starts ends shift side 0 (map span_start (take count spans₀)) (map span_end (take count spans₀))) in
      rw is
      (record {
        starts_are = c.starts_are ∙ rw (pairs (start_number original Char), w.starts_are) (turned (start_number original Char) (λ a e. a) spans₀);
        ends_are = c.ends_are ∙ rw (pairs (end_number original Char), w.ends_are) (turned (end_number original Char) (λ a e. e) to₀);
      })
