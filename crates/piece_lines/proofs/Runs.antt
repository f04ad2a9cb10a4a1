-- Laws of `runs` and `joinedLines`: the first run apart, one byte more, and the runs joined again.
use Prim.Native.Nat.{ℕ}
use mathlib.Core.Path.{◌≡◌, ◌∙◌, ap, refl}
use mathlib.Core.Bool.{true, false}
use mathlib.Core.List.{List, [], ◌∷◌}
use lib.Dec.{eqb}
use borrow.Author.Tests.{eqb-true}
use Rattle.buffers.proofs.Cases.{true-or-false}
use Rattle.piece_lines.specs.Input.{in_front, runs, joined_lines, RunsJoined}

-- there is a first run
pub record First (ls : List (List ℕ)) : Type 0 where
  pub first : List ℕ
  pub others : List (List ℕ)
  pub is : ls ≡ first ∷ others

in-front : (b : ℕ) (ls : List (List ℕ)) → First (in_front b ls)
in-front b [] = record { first = b ∷ []; others = []; is = refl }
in-front b (l ∷ ls) = record { first = b ∷ l; others = ls; is = refl }

pub first_run : (s : List ℕ) → First (runs s)
unfolding runs
first_run [] = record { first = []; others = []; is = refl }
first_run (b ∷ bs) =
    true-or-false (eqb b 0x0A)
    (λ t. record { first = []; others = runs bs; is = rw t })
    (λ f. rw f (in-front b (runs bs)))

-- an LF ends a run, and any other byte is in front of one
pub runs-end : (b : ℕ) (bs : List ℕ) → eqb b 0x0A ≡ true → runs (b ∷ bs) ≡ [] ∷ runs bs
unfolding runs
runs-end b bs t = rw t

pub runs-more : (b : ℕ) (bs : List ℕ) → eqb b 0x0A ≡ false → runs (b ∷ bs) ≡ in_front b (runs bs)
unfolding runs
runs-more b bs f = rw f

joined_end : (ls : List (List ℕ)) → First ls → joined_lines ([] ∷ ls) ≡ 0x0A ∷ joined_lines ls
unfolding joined_lines
joined_end ls r = rw r.is

joined-more : (b : ℕ) (ls : List (List ℕ)) → First ls → joined_lines (in_front b ls) ≡ b ∷ joined_lines ls
unfolding joined_lines
joined-more b ls r = rw r.is (others b r.first r.others)
  where
    others : (b : ℕ) (l : List ℕ) (ls : List (List ℕ)) → joined_lines ((b ∷ l) ∷ ls) ≡ b ∷ joined_lines (l ∷ ls)
    others b l [] = refl
    others b l (m ∷ ls) = refl

pub runs-joined : RunsJoined
unfolding runs joined_lines
runs-joined [] = refl
runs-joined (b ∷ bs) =
    true-or-false (eqb b 0x0A)
    (λ t. ap joined_lines (runs-end b bs t) ∙ joined_end (runs bs) (first_run bs) ∙ rw (runs-joined bs, eqb-true b 0x0A t))
    (λ f. ap joined_lines (runs-more b bs f) ∙ joined-more b (runs bs) (first_run bs) ∙ rw (runs-joined bs))
