-- What the inner functions are told and say: code points judged, and room for their bytes.
use Rattle.std.specs.Prelude.{ℕ, ◌+◌, ◌≤◌, ◌≡◌, List, length}
use Rattle.code_point_blocks.specs.Codes.{text_of, all_scalar}
use Rattle.code_points.specs.declared.Judged.{Judged}

pub record JudgedAs (codes : List ℕ) (r : Judged) : Type 0 where
  pub scalar_is : r.scalar ≡ all_scalar codes
  pub size_is : r.size ≡ length (text_of codes)

-- room for the bytes of code points from `from` on, and a bound up to which may be written
pub record TextRoom (codes out : List ℕ) (from until : ℕ) : Type 0 where
  pub room : from + length (text_of codes) ≤ length out
  pub bounded : until ≤ length out
