-- Laws of `measured`: a script is measured command by command.
use Prim.Native.Nat.{ℕ, ◌+◌, ◌^◌, ◌≤◌, ◌<◌}
use mathlib.Core.Path.{◌≡◌, ◌∙◌, ap, refl}
use mathlib.Core.Bool.{Bool, true, false, ◌||◌}
use mathlib.Core.List.{List, [], ◌∷◌}
use native.Mathlib.Omega.{arith}
use lib.ListN.{length, drop}
use Rattle.std.specs.Prelude.{Option, Some, None}
use Rattle.buffers.proofs.Cases.{true-or-false}
use Rattle.script.specs.declared.Command.{Command}
use Rattle.utf8.specs.Scalar.{len_utf8}
use Rattle.script.specs.Scripts.{command_at, commands_of}
use Rattle.script.proofs.Scripts.{Stepped, entry-step, entry-broken, entries-end}
use Rattle.edit_steps.specs.declared.walking.Progress.{Progress}
use Rattle.edit_steps.specs.Edits.{starves, moved, starved}
use Rattle.edit_steps.specs.Walking.{Standing, Counting, commands_size, progress_after, measured}
use Rattle.edit_steps.proofs.Positions.{standing-moved, stepped-fed, stepped-told}

-- some commands have gone by: what is left starves and counts as all did
pub record Passed (s : List ℕ) (b from : ℕ) (all rest : List Command) (g : Progress) : Type 0 where
  pub starving : starved s b from all ≡ starved s b g.position.0 rest
  pub counted : commands_size all ≡ g.written + commands_size rest
  pub standing : Standing s b g.position.0

pub none_passed : {s : List ℕ} {b from : ℕ} {all : List Command} → Standing s b from → Passed s b from all all (record { position = record { 0 = from }; written = 0; starved = false })
none_passed at = record { starving = refl; counted = omega arith; standing = at }

module _ {s : List ℕ} {b from : ℕ} {all rest : List Command} {g : Progress} (m : Passed s b from all rest g) where
  module _ {c : Command} {others : List Command} {t : Bool} (next : rest ≡ c ∷ others) (test : t ≡ starves b g.position.0 c) where
    one : starved s b from all ≡ (t || starved s b (moved s b g.position.0 c) others)
    unfolding starved
    one = m.starving ∙ rw (next, ← test)

    pub starves-here : t ≡ true → None ≡ measured s b from all
    unfolding measured
    starves-here e = let yes : starved s b from all ≡ true = one ∙ rw e in rw yes

    pub one-passed : {h : Progress} → t ≡ false → h ≡ progress_after s b g c → Passed s b from all others h
    unfolding commands_size
    one-passed {h} e on =
        let now : h ≡ record { position = record { 0 = moved s b g.position.0 c }; written = g.written + len_utf8 c.character; starved = false } = on ∙ stepped-fed s b g c test e in
        let left : commands_size rest ≡ len_utf8 c.character + commands_size others = rw next in
        rw now
        (record {
          starving = one ∙ rw e;
          counted = omega (arith, m.counted, left);
          standing = (standing-moved c m.standing).0;
        })

  pub all-passed : rest ≡ [] → Some g.written ≡ measured s b from all
  unfolding measured starved commands_size
  all-passed none =
      let feeds : starved s b from all ≡ false = m.starving ∙ rw none in
      let zero : commands_size rest ≡ 0 = rw none in
      let whole : commands_size all ≡ g.written = omega (arith, m.counted) in
      rw (feeds, whole)

-- a script is measured up to i
pub record Measuring (s : List ℕ) (b from : ℕ) (l : List ℕ) (g : Progress) (i : ℕ) : Type 0 where
  pub passed : Passed s b from (commands_of l) (commands_of (drop i l)) g
  pub small : g.written ≤ i
  pub most : i ≤ length l

pub none-measured : {s l : List ℕ} {b from : ℕ} → Standing s b from → Measuring s b from l (record { position = record { 0 = from }; written = 0; starved = false }) 0
none-measured at = record { passed = none_passed at; small = omega arith; most = omega arith }

module _ {s l : List ℕ} {b from : ℕ} {g : Progress} {i : ℕ} (m : Measuring s b from l g i) where
  module _ {entry : Option (Command × ℕ)} {c : Command} {next : ℕ} (is : entry ≡ command_at l i) (there : entry ≡ Some (c, next)) where
    step : Stepped l i c next
    step = entry-step l is there

    pub counting : length l < 2 ^ 64 → Counting s b g c
    counting long = record { standing = m.passed.standing; counts = omega (arith, m.small, step.onward, step.most) }

    module _ {h : Progress} (on : h ≡ progress_after s b g c) where
      told : h.starved ≡ starves b g.position.0 c
      told = ap (λ (x : Progress). x.starved) on ∙ stepped-told s b g c refl

      pub starves-there : h.starved ≡ true → None ≡ measured s b from (commands_of l)
      starves-there e = starves-here m.passed step.commands told e

      pub one-measured : h.starved ≡ false → Measuring s b from l h next
      one-measured e =
          let now : h ≡ record { position = record { 0 = moved s b g.position.0 c }; written = g.written + len_utf8 c.character; starved = false } = on ∙ stepped-fed s b g c told e in
          let count : h.written ≡ g.written + len_utf8 c.character = ap (λ (x : Progress). x.written) now in
          record {
            passed = one-passed m.passed step.commands told e on;
            small = omega (arith, m.small, step.onward, count);
            most = step.most;
          }

  pub broken-measured : {entry : Option (Command × ℕ)} → i < length l → entry ≡ command_at l i → entry ≡ None → Some g.written ≡ measured s b from (commands_of l)
  broken-measured h is e = all-passed m.passed (entry-broken l h is e).0

  pub all-measured : length l ≤ i → Some g.written ≡ measured s b from (commands_of l)
  all-measured h = all-passed m.passed (entries-end l h).0

-- what a measure tells
module _ (s : List ℕ) (b p : ℕ) (cs : List Command) where
  pub measured-starved : measured s b p cs ≡ None → starved s b p cs ≡ true
  unfolding measured
  measured-starved e =
      true-or-false (starved s b p cs) (λ t. t)
      (λ u. let z : Some (commands_size cs) ≡ None = rw u at e in let y : ◌≡◌ {A = ℕ} 0 1 = cc in absurd (omega arith))

  pub measured-size : {size : ℕ} → measured s b p cs ≡ Some size → (starved s b p cs ≡ false) × (size ≡ commands_size cs)
  unfolding measured
  measured-size {size} e =
      true-or-false (starved s b p cs)
      (λ t. let z : None ≡ Some size = rw t at e in let y : ◌≡◌ {A = ℕ} 0 1 = cc in absurd (omega arith))
      (λ u. let z : Some (commands_size cs) ≡ Some size = rw u at e in (u, cc))
