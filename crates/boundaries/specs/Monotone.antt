-- The working form of `aligned`: an alignment beside the one before it, and the transcript's boundaries apart.
use Rattle.std.specs.Prelude.{ℕ, zero, suc, Bool, ◌&&◌, ◌||◌, not, List, leb, eqb, get_or}
use Rattle.buffers.specs.Every.{every_below}
use Rattle.utf8.specs.Formed.{continues}

-- (s1, e1) at the byte b can follow (s0, e0) at the byte before, over a transcript of `size` bytes
unfoldable pub follows : ℕ → ℕ → ℕ → ℕ → ℕ → ℕ → Bool
follows b s0 e0 s1 e1 size =
    leb s1 e1 && leb e1 size && (not (continues b) || (eqb s0 s1 && eqb e0 e1)) && leb s0 s1 && leb e0 e1

unfoldable pub monotone_at : List ℕ → List ℕ → List ℕ → ℕ → ℕ → Bool
monotone_at text starts ends size zero = leb (get_or starts 0 0) (get_or ends 0 0) && leb (get_or ends 0 0) size
monotone_at text starts ends size (suc i) =
    follows (get_or text (suc i) 0) (get_or starts i 0) (get_or ends i 0) (get_or starts (suc i) 0) (get_or ends (suc i) 0) size

unfoldable pub monotone : List ℕ → List ℕ → List ℕ → ℕ → ℕ → Bool
monotone text starts ends size n = every_below n (monotone_at text starts ends size)

-- no character is cut at p
unfoldable pub uncut : List ℕ → ℕ → Bool
uncut original p = not (continues (get_or original p 0))

unfoldable pub uncut_below : List ℕ → List ℕ → List ℕ → ℕ → Bool
uncut_below original starts ends n =
    every_below n (λ i. uncut original (get_or starts i 0) && uncut original (get_or ends i 0))
