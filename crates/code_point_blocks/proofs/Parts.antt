-- A result that is laid part by part from a place on: none yet, one more, all of it.
use Prim.Native.Nat.{ℕ, ◌+◌, ◌-◌, ◌≤◌}
use mathlib.Core.Path.{◌≡◌, ◌∙◌, refl, sym}
use mathlib.Core.List.{List, [], ◌++◌, append_assoc, append-nil}
use native.Mathlib.Omega.{arith}
use lib.ListN.{length, take, drop, length-append, take-append-drop}
use lib.Seq.{length-take-le, take-add}
use Rattle.buffers.specs.Splice.{part, splice}
use Rattle.buffers.specs.Over.{Over}
use Rattle.buffers.proofs.Splice.{append-cut}
use Rattle.buffers.proofs.Over.{over-after}

pub record Parts (whole rest d₀ : List ℕ) (from until at : ℕ) (d : List ℕ) : Type 0 where
  pub laid : List ℕ
  pub over : Over laid d₀ from until d
  pub together : laid ++ rest ≡ whole
  pub reach : at ≡ from + length laid

pub over_none : {d : List ℕ} (from until : ℕ) → Over [] d from until d
over_none {d} from until =
    record { front = let z : from + 0 ≡ from = omega arith in rw z (sym (append-nil (take from d))); beyond = λ k far below. refl; same = refl }

pub no_part : {whole d₀ : List ℕ} {from until : ℕ} → Parts whole whole d₀ from until from d₀
no_part {from = from} {until} = record { laid = []; over = over_none from until; together = refl; reach = omega arith }

module _ {whole rest d₀ : List ℕ} {from until at : ℕ} {d : List ℕ} (k : Parts whole rest d₀ from until at d) where
  pub parts-size : at + length rest ≡ from + length whole
  parts-size =
      let both : length (k.laid ++ rest) ≡ length whole = rw k.together in
      omega (arith, both, length-append k.laid rest, k.reach)

  pub one-part : (run others : List ℕ) {at₁ : ℕ} {d₁ : List ℕ} → rest ≡ run ++ others → at₁ ≡ at + length run → Over run d at until d₁ → Parts whole others d₀ from until at₁ d₁
  one-part run others next here o =
      record {
        laid = k.laid ++ run;
        over = over-after k.over (rw k.reach at o);
        together = append_assoc k.laid run others ∙ rw (← next) k.together;
        reach = omega (arith, here, k.reach, length-append k.laid run);
      }

  pub all-parts : rest ≡ [] → (at ≡ from + length whole) × Over whole d₀ from until d
  all-parts none =
      let is : k.laid ≡ whole = sym (append-nil k.laid) ∙ (rw none at k.together) in
      (k.reach ∙ rw is, rw is at k.over)

-- a run over which nothing is told is laid exactly
pub over-splice : {r d₀ d : List ℕ} {at until : ℕ} → Over r d₀ at until d → until ≤ at + length r → d ≡ splice d₀ at r
unfolding splice
over-splice {r} {d₀} {d} {at} o below =
    sym (take-append-drop (at + length r) d) ∙ rw (o.front, o.beyond (at + length r) (omega arith) below)

pub over-wider : {r d₀ d : List ℕ} {at until : ℕ} (further : ℕ) → Over r d₀ at until d → until ≤ further → Over r d₀ at further d
over-wider further o h = record { front = o.front; beyond = λ k past below. o.beyond k past (omega arith); same = o.same }

-- and it is there
pub over-run : {r d₀ d : List ℕ} {at until : ℕ} → Over r d₀ at until d → at + length r ≤ length d₀ → part d at (at + length r) ≡ r
over-run {r} {d₀} {d} {at} o room =
    let n : at + length r - at ≡ length r = omega arith in
    let begun : length (take at d) ≡ length (take at d₀) = length-take-le at d (omega (arith, o.same)) ∙ sym (length-take-le at d₀ (omega arith)) in
    rw n (append-cut (take at d) (take at d₀) (take (length r) (drop at d)) r begun (sym (take-add at (length r) d) ∙ o.front)).1
