-- Laws of `Held` and `InPlace`: what a call has published fits the buffers that hold the note, and is held there.
use Prim.Native.Nat.{ℕ, ◌+◌, ◌≤◌}
use mathlib.Core.Path.{◌≡◌, ◌∙◌}
use mathlib.Core.List.{List}
use native.Mathlib.Omega.{arith}
use lib.ListN.{length, take}
use lib.Seq.{length-take-le}
use Rattle.std.specs.Prelude.{Result, Ok}
use Rattle.redact_note.proofs.Moved.{Fits, call_fits}
use Rattle.redact_in_place.specs.InPlace.{Held, InPlace}
use Rattle.note.specs.declared.Refusal.{Refusal}

module _ {m : ℕ} {out starts ends : List ℕ} (f : Fits m out starts ends) {size : ℕ} {text₁ starts₁ ends₁ : List ℕ} (h : Held size text₁ starts₁ ends₁) where
  pub text-copied : 0 + length (take m out) ≤ length text₁
  text-copied = omega (arith, length-take-le m out f.text_fits, f.within, h.text_long)

  pub starts-copied : 0 + length (take m starts) ≤ length starts₁
  starts-copied = omega (arith, length-take-le m starts f.starts_fit, f.within, h.starts_long)

  pub ends-copied : 0 + length (take m ends) ≤ length ends₁
  ends-copied = omega (arith, length-take-le m ends f.ends_fit, f.within, h.ends_long)

-- what is left is held, in buffers that have kept their lengths
pub left-held : {original : List ℕ} {shift size m count : ℕ} {literal content text₀ starts₀ ends₀ : List ℕ} {r : Result (ℕ × ℕ) Refusal} {text starts ends : List ℕ}
    → Held size text₀ starts₀ ends₀ → InPlace original shift size literal content text₀ starts₀ ends₀ r text starts ends → r ≡ Ok (m, count)
    → length text ≡ length text₀ → length starts ≡ length starts₀ → length ends ≡ length ends₀
    → Held m text starts ends
left-held h p is t s e =
    record { size_most = (call_fits p.call is).within; text_long = t ∙ h.text_long; starts_long = s ∙ h.starts_long; ends_long = e ∙ h.ends_long }

module _ {size : ℕ} {text starts ends : List ℕ} (h : Held size text starts ends) where
  pub text-within : size ≤ length text
  text-within = omega (arith, h.size_most, h.text_long)

  pub starts-within : size ≤ length starts
  starts-within = omega (arith, h.size_most, h.starts_long)

  pub ends-within : size ≤ length ends
  ends-within = omega (arith, h.size_most, h.ends_long)
