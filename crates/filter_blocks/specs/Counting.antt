-- What is told and said while the whole text is filtered: how far it is, and how many are still kept.
use Rattle.std.specs.Prelude.{ℕ, ◌+◌, ◌≤◌, ◌<◌, ◌≡◌, true, cond, List, [], ◌∷◌, eqb, length, drop}
use Rattle.buffers.specs.Over.{Reaching}
use Rattle.utf8.specs.Formed.{boundary}
use Rattle.utf8.specs.Counting.{Counted}
use Rattle.filter_blocks.specs.declared.Filtered.{Filtered}
use Rattle.filter_blocks.specs.Chosen.{chosen, FlagEach, KeptColumnRoom}

-- how many flags keep their characters
unfoldable pub kept_count : List ℕ → ℕ
kept_count [] = 0
kept_count (k ∷ ks) = cond (eqb k 0) 0 1 + kept_count ks

-- how many bytes a flag keeps of so many
unfoldable pub kept_len : ℕ → ℕ → ℕ
kept_len flag size = cond (eqb flag 0) 0 size

-- after the first r flags four characters are kept, if there are any before
pub record BeforeFour (flags : List ℕ) (r : ℕ) : Type 0 where
  pub most : r ≤ length flags
  pub many : 0 < r → 4 ≤ kept_count (drop r flags)

-- the kept bytes before q stand in the three buffers, which are what they were after the result
pub record KeptBefore (s starts ends flags out₀ starts₀ ends₀ : List ℕ) (q i at : ℕ) (out starts₁ ends₁ : List ℕ)
    : Type 0 where
  pub counted : Counted s i q
  pub text : Reaching (chosen flags 0 s s) (chosen flags i (drop q s) (drop q s)) out₀ at out
  pub starts_so_far : Reaching (chosen flags 0 s starts) (chosen flags i (drop q s) (drop q starts)) starts₀ at starts₁
  pub ends_so_far : Reaching (chosen flags 0 s ends) (chosen flags i (drop q s) (drop q ends)) ends₀ at ends₁

-- the kept bytes before q, which is no further than a bound, stand in the buffers
pub record KeptSoFar (s starts ends flags : List ℕ) (e : ℕ) (out₀ starts₀ ends₀ : List ℕ) (q i at : ℕ)
    (out starts₁ ends₁ : List ℕ) : Type 0 where
  pub laid : KeptBefore s starts ends flags out₀ starts₀ ends₀ q i at out starts₁ ends₁
  pub below : q ≤ e

-- the kept bytes before q, which is between two characters, stand in the buffers
pub record KeptBetween (s starts ends flags out₀ starts₀ ends₀ : List ℕ) (q i at : ℕ) (out starts₁ ends₁ : List ℕ)
    : Type 0 where
  pub laid : KeptBefore s starts ends flags out₀ starts₀ ends₀ q i at out starts₁ ends₁
  pub stands : boundary s q ≡ true

pub record KeptCharsRoom (s starts ends flags : List ℕ) (stop : ℕ) (out starts₀ ends₀ : List ℕ) : Type 0 where
  pub flagged : FlagEach s flags
  pub four : BeforeFour flags stop
  pub text_ready : KeptColumnRoom s s flags out
  pub starts_ready : KeptColumnRoom s starts flags starts₀
  pub ends_ready : KeptColumnRoom s ends flags ends₀

pub record CharsKept (s starts ends flags : List ℕ) (stop : ℕ) (out₀ starts₀ ends₀ : List ℕ) (r : Filtered)
    (out starts₁ ends₁ : List ℕ) : Type 0 where
  pub flag_is : r.flag ≡ stop
  pub between-chars :
      KeptBetween s starts ends flags out₀ starts₀ ends₀ r.read r.flag r.written out starts₁ ends₁
