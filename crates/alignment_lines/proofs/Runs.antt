-- Laws of `run_of`: a run is walked byte by byte.
use Prim.Native.Nat.{ℕ, suc, ◌+◌, ◌-◌, ◌≤◌, ◌<◌}
use mathlib.Core.Path.{◌≡◌, ◌∙◌, refl}
use mathlib.Core.Bool.{cond, ◌&&◌}
use mathlib.Core.List.{List, [], ◌∷◌}
use native.Mathlib.Numerals.{add-one}
use native.Mathlib.Omega.{arith}
use lib.Dec.{eqb}
use lib.ListN.{length, get_or, drop, length-drop, drop_of_length-le}
use lib.Seq.{drop-cons}
use borrow.Author.Tests.{eq-eqb, ne_eqb}
use Rattle.buffers.proofs.Cases.{true-or-false}
use Rattle.buffers.proofs.Booleans.{and_false_r}
use Rattle.alignment_lines.specs.Lines.{run_of}

-- the bytes from `at` to i carry the alignment (start, end): what is left of the run begins at i
pub record WalkedRun (starts ends : List ℕ) (at start end i : ℕ) : Type 0 where
  pub so_far : run_of start end (drop at starts) (drop at ends) ≡ (i - at) + run_of start end (drop i starts) (drop i ends)
  pub from : at ≤ i
  pub most : i ≤ length starts

pub none-walked : {starts ends : List ℕ} {at start end : ℕ} → at ≤ length starts → WalkedRun starts ends at start end at
none-walked h = record { so_far = omega arith; from = omega arith; most = h }

run-cons : (start end s e : ℕ) (ss es : List ℕ) → run_of start end (s ∷ ss) (e ∷ es) ≡ cond (eqb s start && eqb e end) (suc (run_of start end ss es)) 0
unfolding run_of
run-cons start end s e ss es = refl

run_none : (start end : ℕ) (es : List ℕ) → run_of start end [] es ≡ 0
unfolding run_of
run_none start end es = refl

run_step : (starts ends : List ℕ) (start end i : ℕ) → length starts ≡ length ends → i < length starts → run_of start end (drop i starts) (drop i ends) ≡ cond (eqb (get_or starts i 0) start && eqb (get_or ends i 0) end) (suc (run_of start end (drop (i + 1) starts) (drop (i + 1) ends))) 0
run_step starts ends start end i alike h =
    let k : i < length ends = omega arith in
    rw (drop-cons starts i 0 h, drop-cons ends i 0 k, run-cons, add-one i)

module _ {starts ends : List ℕ} {at start end i : ℕ} (w : WalkedRun starts ends at start end i) where
  stops : run_of start end (drop i starts) (drop i ends) ≡ 0 → i - at ≡ run_of start end (drop at starts) (drop at ends)
  stops none = omega (arith, w.so_far)

  pub at-end : length starts ≤ i → i - at ≡ run_of start end (drop at starts) (drop at ends)
  at-end h = stops (rw (drop_of_length-le starts h, run_none))

  module _ (alike : length starts ≡ length ends) (h : i < length starts) where
    pub one-walked : get_or starts i 0 ≡ start → get_or ends i 0 ≡ end → WalkedRun starts ends at start end (i + 1)
    one-walked s e =
        let step : run_of start end (drop i starts) (drop i ends) ≡ suc (run_of start end (drop (i + 1) starts) (drop (i + 1) ends)) = run_step starts ends start end i alike h ∙ rw (eq-eqb _ _ s, eq-eqb _ _ e) in
        record { so_far = omega (arith, w.so_far, w.from); from = omega (arith, w.from); most = omega arith }

    pub other-start : (get_or starts i 0 ≡ start → ⊥) → i - at ≡ run_of start end (drop at starts) (drop at ends)
    other-start n = stops (run_step starts ends start end i alike h ∙ rw (ne_eqb _ _ n))

    pub other-end : (get_or ends i 0 ≡ end → ⊥) → i - at ≡ run_of start end (drop at starts) (drop at ends)
    other-end n = stops (run_step starts ends start end i alike h ∙ rw (and_false_r (eqb (get_or starts i 0) start) _ (ne_eqb _ _ n)))

run-most : (start end : ℕ) (ss es : List ℕ) → run_of start end ss es ≤ length ss
unfolding run_of
run-most start end [] es = omega arith
run-most start end (s ∷ ss) [] = omega arith
run-most start end (s ∷ ss) (e ∷ es) =
    true-or-false (eqb s start && eqb e end)
    (λ t. rw t (omega (arith, run-most start end ss es)))
    (λ f. rw f (omega arith))

-- the run of a byte has that byte, and ends with the columns at the latest
module _ (starts ends : List ℕ) (at r : ℕ) (alike : length starts ≡ length ends) (h : at < length starts) (is : r ≡ run_of (get_or starts at 0) (get_or ends at 0) (drop at starts) (drop at ends)) where
  pub run-first : r ≡ suc (run_of (get_or starts at 0) (get_or ends at 0) (drop (at + 1) starts) (drop (at + 1) ends))
  run-first = is ∙ run_step starts ends _ _ at alike h ∙ rw (eq-eqb (get_or starts at 0) _ refl, eq-eqb (get_or ends at 0) _ refl)

  pub run-within : (0 < r) × (at + r ≤ length starts)
  run-within = (
    omega (arith, run-first),
    omega (arith, run-most (get_or starts at 0) (get_or ends at 0) (drop at starts) (drop at ends), length-drop at starts),
  )
