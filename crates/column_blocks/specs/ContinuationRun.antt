-- The working form of the starting note's columns: each number is counted from three bytes beside it.
use Rattle.std.specs.Prelude.{ℕ, ◌+◌, cond, List, get_or}
use Rattle.utf8.specs.Formed.{continues}

-- how many of three bytes continue a character, up to the first that does not
unfoldable pub continuation_run : ℕ → ℕ → ℕ → ℕ
continuation_run a b c = cond (continues a) (cond (continues b) (cond (continues c) 3 2) 1) 0

-- of the bytes that stand k after three places of a text
abbrev pub run_at : List ℕ → ℕ → ℕ → ℕ → ℕ → ℕ
run_at s a b c k = continuation_run (get_or s (a + k) 0) (get_or s (b + k) 0) (get_or s (c + k) 0)
