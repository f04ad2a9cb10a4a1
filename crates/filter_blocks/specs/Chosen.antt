-- What is told and said where the whole text is filtered byte by byte.
use Rattle.std.specs.Prelude.{ℕ, ◌+◌, ◌-◌, ◌≤◌, ◌<◌, ◌≡◌, Bool, true, false, cond, ◌&&◌, not, List, [], ◌∷◌, leb, eqb, length, get_or, take, drop}
use Rattle.buffers.specs.Every.{every_below}
use Rattle.buffers.specs.Splice.{overlay}
use Rattle.utf8.specs.Formed.{well_formed}
use Rattle.utf8.specs.Chars.{chars, lead_at, leads}

-- what the bytes of kept characters have of a column, from a byte on before which i characters begin
unfoldable pub chosen : List ℕ → ℕ → List ℕ → List ℕ → List ℕ
chosen flags i [] xs = []
chosen flags i (b ∷ s) [] = []
chosen flags i (b ∷ s) (x ∷ xs) =
    cond (eqb (get_or flags (i + lead_at b - 1) 0) 0) (chosen flags (i + lead_at b) s xs)
    (x ∷ chosen flags (i + lead_at b) s xs)

-- a well-formed text and a flag for each of its characters
pub record FlagEach (s flags : List ℕ) : Type 0 where
  pub formed : well_formed s ≡ true
  pub counted : length flags ≡ chars s

-- the last kept character ends at e: nothing is kept after it, and the byte before it is
pub record KeptEnd (s flags : List ℕ) (e : ℕ) : Type 0 where
  pub most : e ≤ length s
  pub behind : (xs : List ℕ) → length xs ≡ length s → chosen flags (leads (take e s)) (drop e s) (drop e xs) ≡ []
  pub before : 0 < e → eqb (get_or flags (leads (take e s) - 1) 0) 0 ≡ false

-- no flag drops its character
unfoldable pub all_kept : List ℕ → Bool
all_kept flags = every_below (length flags) (λ i. not (eqb (get_or flags i 0) 0))

-- a column of the text, and room for what is chosen of it
pub record KeptColumnRoom (s xs flags d : List ℕ) : Type 0 where
  pub one_each : length xs ≡ length s
  pub room : length (chosen flags 0 s s) ≤ length d

pub record KeptRoom (s starts ends flags : List ℕ) (e : ℕ) (out starts₀ ends₀ : List ℕ) : Type 0 where
  pub flagged : FlagEach s flags
  pub kept : KeptEnd s flags e
  pub text_ready : KeptColumnRoom s s flags out
  pub starts_ready : KeptColumnRoom s starts flags starts₀
  pub ends_ready : KeptColumnRoom s ends flags ends₀

pub record KeptLaid (s starts ends flags out₀ starts₀ ends₀ : List ℕ) (r : ℕ) (out starts₁ ends₁ : List ℕ)
    : Type 0 where
  pub reached : r ≡ length (chosen flags 0 s s)
  pub text_is : out ≡ overlay (chosen flags 0 s s) out₀
  pub starts_are : starts₁ ≡ overlay (chosen flags 0 s starts) starts₀
  pub ends_are : ends₁ ≡ overlay (chosen flags 0 s ends) ends₀

-- a range that is the whole text, and room for all of it
unfoldable pub is_whole : ℕ → ℕ → ℕ → ℕ → ℕ → Bool
is_whole most from to size room = eqb from 0 && eqb to size && leb size most && leb size room
