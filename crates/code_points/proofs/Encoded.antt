-- Laws of `EncodedAs`: a character's encoding laid exactly, or all four bytes of it.
use Prim.Native.Nat.{ℕ, ◌+◌, ◌≤◌}
use mathlib.Core.Path.{◌≡◌}
use mathlib.Core.List.{List}
use native.Mathlib.Omega.{arith}
use lib.ListN.{length, take, replicate}
use Rattle.buffers.specs.Splice.{splice}
use Rattle.buffers.specs.Over.{Over}
use Rattle.buffers.proofs.Splice.{take-overlay, length-overlay}
use Rattle.buffers.proofs.Over.{over-exact, over-front}
use Rattle.utf8.specs.Scalar.{bytes_of}
use Rattle.utf8.specs.declared.Encoded.{Encoded}
use Rattle.utf8.specs.Encoding.{EncodedAs}
use Rattle.utf8.specs.Scalar.{len_utf8}
use Rattle.utf8.proofs.LenUtf8.{size_most}

module _ {c : ℕ} {r : Encoded} (e : EncodedAs c r) where
  pub encoded-size : r.len ≡ len_utf8 c
  unfolding len_utf8
  encoded-size = e.len_is

  pub encoded-front : take r.len r.bytes ≡ bytes_of c
  encoded-front = rw (e.len_is, e.bytes_are) (take-overlay (bytes_of c) (replicate 4 0))

  pub encoded-four : length r.bytes ≡ 4
  unfolding len_utf8
  encoded-four = rw e.bytes_are (length-overlay (bytes_of c) (replicate 4 0) (size_most c))

  pub encoded-inside : r.len ≤ length r.bytes
  encoded-inside = omega (arith, encoded-size, encoded-four, size_most c)

  -- laid exactly, or all four
  pub encoded-exact : {d₀ d : List ℕ} {at : ℕ} (until : ℕ) → at + len_utf8 c ≤ length d₀ → d ≡ splice d₀ at (take r.len r.bytes) → Over (bytes_of c) d₀ at until d
  unfolding len_utf8
  encoded-exact {d₀} {at = at} until room is = over-exact (bytes_of c) d₀ at until room (rw encoded-front at is)

  pub encoded-over : {d₀ d : List ℕ} {at until : ℕ} → at + 4 ≤ until → until ≤ length d₀ → d ≡ splice d₀ at r.bytes → Over (bytes_of c) d₀ at until d
  encoded-over {d₀} {at = at} {until} below room is =
      rw encoded-front at
      (over-front r.len (over-exact r.bytes d₀ at until (omega (arith, encoded-four)) is) encoded-inside (omega arith) (omega (arith, encoded-four)))
