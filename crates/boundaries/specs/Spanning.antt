-- The fast form of `uncutBelow`: an alignment that is one whole character is told by the byte at its start.
use Rattle.std.specs.Prelude.{ℕ, ◌-◌, ◌<◌, ◌≡◌, Bool, true, not, List, eqb, length, get_or}
use Rattle.buffers.specs.Every.{every_below}
use Rattle.utf8.specs.Formed.{continues, well_formed}

unfoldable pub leads_below : List ℕ → ℕ → Bool
leads_below bytes n = every_below n (λ k. not (continues (get_or bytes k 0)))

unfoldable pub spans_below : List ℕ → List ℕ → List ℕ → ℕ → Bool
spans_below widths starts ends n = every_below n (λ k. eqb (get_or ends k 0 - get_or starts k 0) (get_or widths k 0))

-- the transcript is well-formed, and every start is inside it
pub record StartsInside (original starts : List ℕ) : Type 0 where
  pub formed : well_formed original ≡ true
  pub below : (k : ℕ) → k < length starts → get_or starts k 0 < length original
