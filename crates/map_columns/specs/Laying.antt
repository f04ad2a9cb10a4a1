-- What the inner functions are told and say: code points in the place of a text's characters from a byte on.
use Rattle.std.specs.Prelude.{ℕ, suc, ◌+◌, ◌≤◌, ◌<◌, ◌≡◌, Bool, true, List, length, get_or, drop}
use Rattle.std.specs.Bool.{beq}
use Rattle.buffers.specs.Every.{every_below}
use Rattle.buffers.specs.Over.{Over}
use Rattle.utf8.specs.Formed.{continues}
use Rattle.utf8.specs.Chars.{leads}
use Rattle.code_point_blocks.specs.Codes.{text_of, all_scalar}
use Rattle.map_columns.specs.declared.Reached.{Reached}
use Rattle.map_columns.specs.Spreading.{of_chars, spread}

-- the bytes of each character of a text carry one value of a column
abbrev pub Steady : List ℕ → List ℕ → Type 0
Steady s xs = (q : ℕ) → suc q < length s → continues (get_or s (suc q) 0) ≡ true → get_or xs q 0 ≡ get_or xs (suc q) 0

-- characters begin at the same bytes of two texts
unfoldable pub same_leads : List ℕ → List ℕ → Bool
same_leads a b = every_below (length a) (λ i. beq (continues (get_or a i 0)) (continues (get_or b i 0)))

-- a column of a text that has characters enough from p on, and room for what the code points carry of it
pub record SpreadRoom (s xs : List ℕ) (codes d : List ℕ) (from until : ℕ) : Type 0 where
  pub one_each : length xs ≡ length s
  pub room : from + length (text_of codes) ≤ length d
  pub bounded : until ≤ length d

pub record CharsRoom (s starts ends : List ℕ) (p : ℕ) (codes starts₀ ends₀ : List ℕ) (from until : ℕ) : Type 0 where
  pub inside : p ≤ length s
  pub enough : length codes ≤ leads (drop p s)
  pub starts_room : SpreadRoom s starts codes starts₀ from until
  pub ends_room : SpreadRoom s ends codes ends₀ from until

-- so many characters further, or between the bytes of the last of them
pub record CharsPassed (s : List ℕ) (p count q : ℕ) : Type 0 where
  pub most : q ≤ length s
  pub counted : leads (drop p s) ≡ count + leads (drop q s)

pub record CharsLaid (s starts ends : List ℕ) (p : ℕ) (codes starts₀ ends₀ : List ℕ) (from until q : ℕ)
    (starts₁ ends₁ : List ℕ) : Type 0 where
  pub passed : CharsPassed s p (length codes) q
  pub starts_over : Over (spread codes (of_chars (drop p s) (drop p starts))) starts₀ from until starts₁
  pub ends_over : Over (spread codes (of_chars (drop p s) (drop p ends))) ends₀ from until ends₁

-- scalar values, and room for their bytes too
pub record CodesRoom (s starts ends : List ℕ) (p : ℕ) (codes out starts₀ ends₀ : List ℕ) (from until : ℕ) : Type 0 where
  pub chars_room : CharsRoom s starts ends p codes starts₀ ends₀ from until
  pub scalars : all_scalar codes ≡ true
  pub steady_starts : Steady s starts
  pub steady_ends : Steady s ends
  pub room : from + length (text_of codes) ≤ length out
  pub bounded : until ≤ length out

pub record CodesLaid (s starts ends : List ℕ) (p : ℕ) (codes out₀ starts₀ ends₀ : List ℕ) (from until : ℕ) (r : Reached)
    (out starts₁ ends₁ : List ℕ) : Type 0 where
  pub written_is : r.written ≡ from + length (text_of codes)
  pub text_over : Over (text_of codes) out₀ from until out
  pub chars_laid : CharsLaid s starts ends p codes starts₀ ends₀ from until r.position starts₁ ends₁
