-- The encoding's front is copied, or all four bytes of it.
use native.Mathlib.Omega.{arith}
use lib.Seq.{length-take-le}
use mathlib.Core.Path.{sym}
use Rattle.code_points.proofs.Encoded.{encoded-size, encoded-inside, encoded-exact, encoded-over}
use Rattle.code_points.proofs.put_character.Goals as goal

pub returns-then-at-until : goal.returns-then-at-until
returns-then-at-until c =
    (encoded-size c.encode_utf8-encoded.ensures, encoded-over c.encode_utf8-encoded.ensures c.if-at-until.true c.requires.1 c.copy.ensures)

pub slice_bounds-bytes-end : goal.slice_bounds-bytes-end
slice_bounds-bytes-end c = encoded-inside c.encode_utf8-encoded.ensures

pub slice_bounds-copy-end-2 : goal.slice_bounds-copy-end-2
slice_bounds-copy-end-2 c =
    let made = c.encode_utf8-encoded in sym (length-take-le made.result.len made.result.bytes (encoded-inside made.ensures))

pub copy-requires-2 : goal.copy-requires-2
copy-requires-2 c =
    omega (arith, length-take-le c.encode_utf8-encoded.result.len c.encode_utf8-encoded.result.bytes (encoded-inside c.encode_utf8-encoded.ensures), encoded-size c.encode_utf8-encoded.ensures, c.requires)

pub returns : goal.returns
returns c =
    (encoded-size c.encode_utf8-encoded.ensures, encoded-exact c.encode_utf8-encoded.ensures _ c.requires.0 c.copy-2.ensures)
