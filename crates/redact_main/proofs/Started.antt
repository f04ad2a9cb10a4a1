-- The columns of a fresh text are as long as the text at least.
use Prim.Native.Nat.{ℕ, ◌≤◌}
use mathlib.Core.Path.{◌≡◌, ◌∙◌, ap}
use mathlib.Core.List.{List}
use native.Mathlib.Omega.{arith}
use lib.ListN.{length}
use Rattle.buffers.proofs.Splice.{overlay-long}
use Rattle.note.specs.Refusals.{after, Verdict, Accepted}
use Rattle.note.specs.Notes.{limit}
use Rattle.note.specs.Starting.{starting}
use Rattle.note.proofs.Starting.{length-starting-starts, length-starting-ends}
use Rattle.from_text.specs.FromText.{Started}

over-long : {r : Verdict} → r ≡ Accepted → (s x d : List ℕ) {o : List ℕ} → length x ≡ length s → o ≡ after r x d → length s ≤ length o
over-long ok s x d {o} size e =
    let there : o ≡ after Accepted x d = e ∙ ap (λ (v : Verdict). after v x d) ok in
    omega (arith, size, ap length there, overlay-long x d)

module _ {s starts₀ ends₀ starts ends : List ℕ} {r : Verdict} (begun : Started limit s starts₀ ends₀ r starts ends) (is : r ≡ Accepted) where
  pub starts_long : length s ≤ length starts
  starts_long = over-long is s (starting s).starts starts₀ (length-starting-starts s) begun.starts_are

  pub ends_long : length s ≤ length ends
  ends_long = over-long is s (starting s).ends ends₀ (length-starting-ends s) begun.ends_are
