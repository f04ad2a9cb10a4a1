-- What `encode_utf8` answers: a scalar value's bytes at the front of four, the others 0; of any other number none.
use Rattle.std.specs.Prelude.{ℕ, ◌≡◌, length, replicate}
use Rattle.buffers.specs.Splice.{overlay}
use Rattle.utf8.specs.Scalar.{bytes_of}
use Rattle.utf8.specs.declared.Encoded.{Encoded}

pub record EncodedAs (c : ℕ) (r : Encoded) : Type 0 where
  pub len_is : r.len ≡ length (bytes_of c)
  pub bytes_are : r.bytes ≡ overlay (bytes_of c) (replicate 4 0)
