-- What is printed has at most `most` bytes.
use Prim.Native.Nat.{ℕ, ◌≤◌}
use mathlib.Core.Path.{◌≡◌, refl}
use mathlib.Core.List.{List}
use native.Mathlib.Omega.{arith}
use lib.ListN.{length}
use Rattle.std.specs.Prelude.{Ok, Err}
use Rattle.buffers.proofs.Cases.{true-or-false}
use Rattle.note.specs.declared.Refusal.TheVariants.{BadScript}
use Rattle.note.specs.Refusals.{unless_refused, Verdict, Accepted}
use Rattle.find.proofs.FoundPlaces.{found-read}
use Rattle.behaviors.specs.declared.SplitDelimiterBehavior.{SplitDelimiterBehavior}
use Rattle.behaviors.specs.declared.EmptyPieces.TheVariants.{Kept}
use Rattle.piece_lines.specs.Input.{shaped, lines_verdict}
use Rattle.piece_lines.specs.Printing.{refusal, told, printed, most, PrintedBounded}
use Rattle.piece_lines.proofs.Answering.{refusal-bounded}
use Rattle.piece_lines.proofs.Judging.{found-cuttable}
use Rattle.piece_lines.proofs.Cuts.{pieces-bounded}

said-bounded : (v : Verdict) (text : List ℕ) → (v ≡ Accepted → length text ≤ most) → length (unless_refused refusal v text) ≤ most
said-bounded (Ok tt) text h = h refl
said-bounded (Err k) text h = omega (arith, refusal-bounded k)

told-bounded : (literal : List ℕ) (behavior : SplitDelimiterBehavior) (note : List ℕ) → length (told literal behavior note) ≤ most
unfolding told
told-bounded literal behavior note =
    said-bounded (lines_verdict literal note) _
    (λ e.
    let read = found-read note literal (omega (arith, (found-cuttable literal note e).brief)) in
    rw read at (pieces-bounded (found-cuttable literal note e) behavior Kept))

pub printed-bounded : PrintedBounded
unfolding printed
printed-bounded input =
    true-or-false (shaped input)
    (λ t. rw t (told-bounded _ _ _))
    (λ f. rw f (omega (arith, refusal-bounded BadScript)))
